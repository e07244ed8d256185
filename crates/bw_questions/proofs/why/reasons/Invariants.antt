-- The groups so far have their reason.
use Rattle.std.proofs.Common.{◌≡◌, ℕ, ◌<◌, length, get_or}
use Rattle.bw_questions.specs.declared.why.reason.Reason.TheVariants.{NothingAsked}
use Rattle.bw_questions.specs.Reasons.{FitsReason}
use Rattle.bw_questions.proofs.why.reasons.Given as goal

abbrev pub invariant-loop-g : goal.invariant-loop-g
invariant-loop-g l = (length l.reasons.items ≡ l.g)
    × ((k : ℕ) → k < l.g → FitsReason k (get_or l.gathered.want.items k 0)
    (get_or l.plan.amounts.items k 0) (get_or l.blamed.items k 0)
    (get_or l.reasons.items k NothingAsked))
