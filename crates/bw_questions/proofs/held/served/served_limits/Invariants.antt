-- What stands at each turn of the loop in `served_limits`.
use Rattle.std.proofs.Common.{◌≡◌, ℕ, ◌<◌, length}
use Rattle.bw_questions.specs.Reading.{limit_at}
use Rattle.bw_questions.specs.Served.{IsServedLimit}
use Rattle.bw_questions.proofs.held.served.served_limits.Given as goal

abbrev pub invariant-loop-g : goal.invariant-loop-g
invariant-loop-g l = record {
  long : length l.limits.items ≡ l.g;
  each : (h : ℕ) → h < l.g → IsServedLimit l.reading l.hungry l.calm l.floors l.planned h
      (limit_at l.limits.items h);
}
