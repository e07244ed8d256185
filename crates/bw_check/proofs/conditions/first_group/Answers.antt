-- The goals of `first_group` that are answered by hand.
use Rattle.std.proofs.Common.{◌≡◌, true, false, sym, ◌∙◌, arith}
use Rattle.bw_check.proofs.conditions.first_group.Goals as goal

pub returns-then-not-is_free-clause-first : goal.returns-then-not-is_free-clause-first
returns-then-not-is_free-clause-first c = (
  omega (arith, c.loop-g-test.true, c.group_count-g-end.ensures.count),
  λ free. let yes : c.is_free.result ≡ true =
      c.is_free.ensures.1 free in let clash : true ≡ false = sym yes ∙ c.if-not-is_free.true in cc,
  c.loop-g.invariant.free,
)
