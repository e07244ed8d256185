-- What stands at each turn of the loop in `served_amounts`.
use Rattle.std.proofs.Common.{◌≡◌, map}
use Rattle.std.specs.List.{range_with_len}
use Rattle.bw_questions.specs.Served.{amount_in}
use Rattle.bw_questions.proofs.held.served.served_amounts.Given as goal

abbrev pub invariant-loop-g : goal.invariant-loop-g
invariant-loop-g l = record {
  done : l.amounts.items ≡ map (amount_in l.reading.rows l.floors l.planned)
      (range_with_len 0 l.g);
}
