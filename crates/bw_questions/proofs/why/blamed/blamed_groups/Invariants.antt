-- The groups so far have their group to blame.
use Rattle.std.proofs.Common.{◌≡◌, ℕ, ◌<◌, length, get_or}
use Rattle.bw_questions.specs.Reasons.{IsBlamed}
use Rattle.bw_questions.proofs.why.blamed.blamed_groups.Given as goal

abbrev pub invariant-loop-g : goal.invariant-loop-g
invariant-loop-g l = (length l.blamed.items ≡ l.g)
    × ((k : ℕ) → k < l.g → IsBlamed l.instance l.gathered.most.items
    l.plan.amounts.items k (get_or l.blamed.items k 0))
