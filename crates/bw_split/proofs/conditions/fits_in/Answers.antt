-- The goals of `fits_in` that are answered by hand.
use Rattle.std.proofs.Common.{◌≡◌, ap, arith, rules}
use Rattle.std.specs.Prelude.{sum, take}
use Rattle.std.proofs.lemmas.List.{take_all}
use Rattle.bw_split.proofs.Search.{past_bound}
use Rattle.bw_split.proofs.conditions.fits_in.Goals as goal

pub returns-then-numbers-i : goal.returns-then-numbers-i
returns-then-numbers-i c = (
  λ h. let f : ⊥ = cc in absurd f,
  λ h. absurd (past_bound c.args.numbers.now c.loop-i.i c.loop-i.left c.args.bound
      c.loop-i-test.true c.loop-i.invariant c.if-numbers-i.true h),
)

pub returns : goal.returns
returns c = (
  λ h. let e : sum (take c.loop-i.i c.args.numbers.now) ≡ sum c.args.numbers.now =
      ap sum (take_all c.loop-i.i c.args.numbers.now c.loop-i-test.false) in
      omega (arith, e, c.loop-i.invariant),
  λ h. search rules,
)
