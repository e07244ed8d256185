-- What stands at each turn of the loop in `halves_kept`.
use Rattle.std.proofs.Common.{◌≡◌, ℕ, ◌<◌, length, get_or}
use Rattle.bw_questions.specs.Beside.{kept_goal}
use Rattle.bw_questions.proofs.from_root.beside.halves_kept.Given as goal

abbrev pub invariant-loop-h : goal.invariant-loop-h
invariant-loop-h l = record {
  one_each : length l.kept.items ≡ length l.instance.rows;
  each : (k : ℕ) → k < l.h
      → get_or l.kept.items k 0 ≡ kept_goal l.instance.rows l.goals l.had.items k;
}
