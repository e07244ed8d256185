-- The goals of `logarithm_above` that are answered by hand.
use Rattle.std.proofs.Common.{ℕ, ◌+◌, ◌*◌, ◌^◌, ◌≤◌, ◌≡◌, arith, subst, sym}
use Rattle.bw_owned.specs.declared.logarithm.TheConstants.{ONE}
use Rattle.bw_owned.specs.Logarithm.{at_scale}
use Rattle.std.proofs.Math.Nat.{one-le-pow}
use Rattle.bw_owned.proofs.Closeness.{parts, parts_more, parts_least, parts_few, begun_above}
use Rattle.bw_owned.proofs.Closeness.{closer_above, close_above}
use Rattle.bw_owned.proofs.Squares.{double, squared, powers_few, next_power, most_power, pow_one}
use Rattle.bw_owned.proofs.logarithm.logarithm_above.Goals as goal

pub loop-i-init : goal.loop-i-init
loop-i-init c = record {
  least = omega (arith, c.power_of-below.ensures.range.0);
  most = omega arith;
  exponent = omega arith;
  above = subst (λ (v : ℕ). ONE * v
      ≤ (c.power_of-below.result.mantissa + 1) * 2 ^ c.power_of-below.result.exponent)
      (sym (pow_one c.args.x)) c.power_of-below.ensures.above;
  close = subst
      (λ (v : ℕ). (c.power_of-below.result.mantissa + 1)
      * 2 ^ c.power_of-below.result.exponent * ONE ≤ ONE * v * (ONE + 4))
      (sym (pow_one c.args.x))
      (begun_above c.args.x c.power_of-below.result.mantissa
      (2 ^ c.power_of-below.result.exponent) c.power_of-below.ensures.range.0
      c.power_of-below.ensures.below);
}

pub square_above-power-requires-clause-exponent : goal.square_above-power-requires-clause-exponent
square_above-power-requires-clause-exponent c =
    let few : 2 ^ c.loop-i.i ≤ 2 ^ 36 = powers_few c.loop-i.i (omega arith) in
    omega (arith, few, c.loop-i.invariant.exponent)

pub loop-i-preserved : goal.loop-i-preserved
loop-i-preserved c =
    let kept = c.loop-i.invariant in
    let next : 2 ^ (c.loop-i.i + 1) ≡ 2 ^ c.loop-i.i * 2 = next_power c.loop-i.i in
    let power = c.square_above-power.result in
    record {
      least = c.square_above-power.ensures.range.0;
      most = c.square_above-power.ensures.range.1;
      exponent = omega (arith, next, kept.exponent, c.square_above-power.ensures.exponent);
      above = subst (λ (v : ℕ). ONE * v ≤ power.mantissa * 2 ^ power.exponent)
          (squared c.args.x c.loop-i.i)
          (c.square_above-power.ensures.above (c.args.x ^ (2 ^ c.loop-i.i)) kept.above);
      close = rw (parts_more c.loop-i.i, ← squared c.args.x c.loop-i.i)
          (closer_above (c.args.x ^ (2 ^ c.loop-i.i)) c.loop-i.power.mantissa
          (2 ^ c.loop-i.power.exponent) power.mantissa (2 ^ power.exponent) (parts c.loop-i.i)
          (parts_least c.loop-i.i) (parts_few c.loop-i.i c.loop-i-test.true) kept.close
          (rw (double c.loop-i.power.exponent) at c.square_above-power.ensures.close));
    }

pub square_above-power-requires-clause-range : goal.square_above-power-requires-clause-range
square_above-power-requires-clause-range c =
    (c.loop-i.invariant.least, c.loop-i.invariant.most)

pub returns-clause-above : goal.returns-clause-above
unfolding at_scale
returns-clause-above c =
    let kept = c.loop-i.invariant in
    let last : c.loop-i.i ≡ 36 = omega arith in
    let above : ONE * c.args.x ^ (2 ^ 36)
    ≤ c.loop-i.power.mantissa * 2 ^ c.loop-i.power.exponent =
    subst (λ (i : ℕ). ONE * c.args.x ^ (2 ^ i)
    ≤ c.loop-i.power.mantissa * 2 ^ c.loop-i.power.exponent) last kept.above in
    most_power c.loop-i.power.mantissa c.loop-i.power.exponent (c.args.x ^ (2 ^ 36)) kept.most
    above

pub returns-clause-close : goal.returns-clause-close
unfolding at_scale
returns-clause-close c =
    let kept = c.loop-i.invariant in
    let m = c.loop-i.power.mantissa in
    let p : ℕ = 2 ^ c.loop-i.power.exponent in
    let last : c.loop-i.i ≡ 36 = omega arith in
    let close : m * p * ONE ≤ ONE * c.args.x ^ (2 ^ 36) * (ONE + parts 36) =
    subst (λ (i : ℕ). m * p * ONE ≤ ONE * c.args.x ^ (2 ^ i) * (ONE + parts i)) last kept.close in
    rw (next_power c.loop-i.power.exponent) (close_above (c.args.x ^ (2 ^ 36)) m p
    (one-le-pow (2 ^ 36) c.args.x c.requires.0) kept.least close)

pub returns-clause-bound : goal.returns-clause-bound
returns-clause-bound c =
    let few : 2 ^ c.loop-i.i ≤ 2 ^ 36 = powers_few c.loop-i.i (omega arith) in
    omega (arith, few, c.loop-i.invariant.exponent)
