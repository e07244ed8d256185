-- What stands at each turn of the loop in `lesser`.
use Rattle.std.proofs.Common.{◌≡◌, ℕ, ◌<◌, length, get_or}
use Rattle.std.specs.Prelude.{min}
use Rattle.bw_questions.proofs.from_root.beside.lesser.Given as goal

abbrev pub invariant-loop-h : goal.invariant-loop-h
invariant-loop-h l = record {
  one_each : length l.least.items ≡ length l.some;
  each : (k : ℕ) → k < l.h
      → get_or l.least.items k 0 ≡ min (get_or l.some k 0) (get_or l.others k 0);
}
