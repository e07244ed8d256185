-- The goals of `is_below` that are answered by hand.
use Rattle.std.proofs.Common.{inl}
use Rattle.bw_model.proofs.CallerLemmas.{is_lt-IsBelow}
use Rattle.bw_check.proofs.marks.is_below.Goals as goal

pub returns-then-costs_less : goal.returns-then-costs_less
returns-then-costs_less c = (
  λ _. inl (c.costs_less.ensures.0 c.if-costs_less.true),
  λ _. c.if-costs_less.true,
)

pub returns-else-costs_less : goal.returns-else-costs_less
returns-else-costs_less c =
    let ordered = is_lt-IsBelow c.args.mark c.args.other in rw c.lt.ensures ordered
