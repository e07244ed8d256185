-- The goals of `least_number` that are answered by hand.
use Rattle.std.proofs.Common.{ℕ, ◌≤◌, arith, subst, sym}
use Rattle.bw_model.specs.declared.limits.TheConstants.{MAX_WEIGHT}
use Rattle.bw_owned.specs.declared.formula.WeightFormula.{WeightFormula}
use Rattle.bw_owned.specs.declared.formula.WeightFormula.TheVariants.{SharesLinear}
use Rattle.bw_owned.specs.declared.formula.WeightFormula.TheVariants.{SharesLogarithmic}
use Rattle.bw_owned.specs.declared.formula.WeightFormula.TheVariants.{RequestLinear}
use Rattle.bw_owned.specs.declared.formula.WeightFormula.TheVariants.{RequestLogarithmic}
use Rattle.bw_owned.specs.declared.formula.WeightFormula.TheVariants.{UnitShares, UnitWeight}
use Rattle.bw_owned.specs.Weights.{IsOwnedWeight}
use Rattle.bw_owned.specs.Least.{first_number, last_number}
use Rattle.bw_owned.proofs.WeightLaws.{at_last, too_little}
use Rattle.bw_owned.proofs.least.least_number.Goals as goal

ordered : (formula : WeightFormula) → first_number formula ≤ last_number formula
ordered SharesLinear = omega arith
ordered SharesLogarithmic = omega arith
ordered RequestLinear = omega arith
ordered RequestLogarithmic = omega arith
ordered UnitShares = omega arith
ordered UnitWeight = omega arith

pub loop-low-init : goal.loop-low-init
loop-low-init c =
    let low = c.first_number-low.ensures in
    let high = c.last_number-high.ensures in
    let apart = ordered c.args.formula in
    record {
      first = omega (arith, low);
      order = omega (arith, low, high, apart);
      last = omega (arith, high);
      reaches = (
        MAX_WEIGHT,
        subst (λ (n : ℕ). IsOwnedWeight c.args.formula n MAX_WEIGHT) (sym high)
            (at_last c.args.formula),
        c.requires,
      );
      short = λ lesser given first below there. absurd (omega (arith, first, below, low));
    }

pub loop-low-preserved-then-given-weight : goal.loop-low-preserved-then-given-weight
loop-low-preserved-then-given-weight c =
    let kept = c.loop-low.invariant in
    let apart = c.loop-low-test.true in
    let first = kept.first in
    record {
      first = omega (arith, first, apart);
      order = omega (arith, apart);
      last = kept.last;
      reaches = kept.reaches;
      short = λ lesser given first below there.
          too_little c.args.formula _ c.in-Some.given c.args.weight lesser given
          c.in-Some.ensures.weight c.if-given-weight.true below there;
    }
