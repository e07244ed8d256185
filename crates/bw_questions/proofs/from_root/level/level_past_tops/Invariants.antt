-- What stands at each turn of the loop in `level_past_tops`: a child so far is past the level.
use Rattle.std.proofs.Common.{ℕ, ◌-◌, ◌*◌, ◌<◌, ◌≤◌, length, get_or, IfSome}
use Rattle.bw_split.specs.declared.limits.TheConstants.{GREATEST_LEVEL, STEPS}
use Rattle.bw_questions.proofs.from_root.level.level_past_tops.Given as goal

abbrev pub invariant-loop-k : goal.invariant-loop-k
invariant-loop-k l = record {
  past : IfSome l.past (λ level. (level ≤ GREATEST_LEVEL)
      × ((k : ℕ) × (k < length l.tops)
      × (level * get_or l.tops k 0 < (2 * get_or l.needs k 0 - 1) * STEPS)));
}
