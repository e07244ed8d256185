-- What stands at each turn of the loop in `is_calm`: each leaf before it is given what it asks for.
use Rattle.std.proofs.Common.{◌≡◌, ℕ, ◌<◌, ◌≤◌, true, get_or}
use Rattle.bw_model.specs.Groups.{row_of, is_leaf}
use Rattle.bw_questions.specs.HeldRule.{asked_within}
use Rattle.bw_questions.proofs.held.calm.is_calm.Given as goal

abbrev pub invariant-loop-g : goal.invariant-loop-g
invariant-loop-g l = record {
  given : (k : ℕ) → k < l.g → is_leaf l.round.rows k ≡ true
      → asked_within (row_of l.round.rows k) ≤ get_or l.amounts k 0;
}
