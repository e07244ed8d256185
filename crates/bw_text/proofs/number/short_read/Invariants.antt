-- What stands at each turn of the loop in `short_read`.
use Rattle.std.specs.Prelude.{◌<◌, ◌^◌}
use Rattle.bw_text.proofs.Numbers.{IsReading}
use Rattle.bw_text.proofs.number.short_read.Given as goal

abbrev pub invariant-loop-b : goal.invariant-loop-b
invariant-loop-b l = IsReading l.word l.b-index l.n × (l.n < 10 ^ l.b-index)
