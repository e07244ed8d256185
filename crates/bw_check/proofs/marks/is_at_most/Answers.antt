-- The goals of `is_at_most` that are answered by hand.
use Rattle.std.proofs.Common.{inl, inr, arith}
use Rattle.bw_model.proofs.CallerLemmas.{is_le-IsAtMost}
use Rattle.bw_check.proofs.marks.is_at_most.Goals as goal

pub returns-then-costs_less : goal.returns-then-costs_less
returns-then-costs_less c =
    let less = c.costs_less.ensures.0 c.if-costs_less.true in (
      λ _ above. elim above [
        | inl more ↦ omega (arith, less, more)
        | inr same ↦ omega (arith, less, same.0)
      ],
      λ _. c.if-costs_less.true,
    )

pub returns-else-costs_less : goal.returns-else-costs_less
returns-else-costs_less c =
    let ordered = is_le-IsAtMost c.args.mark c.args.other in rw c.le.ensures ordered
