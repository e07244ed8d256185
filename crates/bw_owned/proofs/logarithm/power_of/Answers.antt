-- The goals of `power_of` that are answered by hand.
use Rattle.std.proofs.Common.{◌+◌, ◌*◌, ◌/◌, arith}
use Rattle.bw_owned.specs.declared.logarithm.TheConstants.{ONE}
use Rattle.bw_owned.proofs.Squares.{half-le, le-half}
use Rattle.bw_owned.proofs.logarithm.power_of.Goals as goal

pub loop-exponent-preserved : goal.loop-exponent-preserved
loop-exponent-preserved c =
    let m = c.loop-exponent.mantissa in
    let e = c.loop-exponent.exponent in
    let kept = c.loop-exponent.invariant in
    record {
      least = omega arith;
      below = half-le m e (ONE * c.args.x) kept.below;
      above = le-half (m + 1) (m / 2 + 1) e (ONE * c.args.x + 1) (omega arith) kept.above;
    }
