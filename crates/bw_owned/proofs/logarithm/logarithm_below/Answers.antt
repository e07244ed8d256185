-- The goals of `logarithm_below` that are answered by hand.
use Rattle.std.proofs.Common.{ℕ, ◌+◌, ◌*◌, ◌^◌, ◌≤◌, ◌≡◌, arith, subst, sym}
use Rattle.bw_owned.specs.declared.logarithm.TheConstants.{ONE}
use Rattle.bw_owned.specs.Logarithm.{at_scale}
use Rattle.std.proofs.lemmas.Nat.{pow-add, pow_pos}
use Rattle.bw_owned.proofs.Closeness.{parts, parts_more, parts_least, parts_few, begun_below}
use Rattle.bw_owned.proofs.Closeness.{closer_below, close_below}
use Rattle.bw_owned.proofs.Squares.{double, squared, powers_few, next_power, least_power, pow_one}
use Rattle.bw_owned.proofs.logarithm.logarithm_below.Goals as goal

pub loop-i-init : goal.loop-i-init
loop-i-init c = record {
  least = c.power_of-power.ensures.range.0;
  most = c.power_of-power.ensures.range.1;
  exponent = omega arith;
  below = subst
      (λ (v : ℕ). c.power_of-power.result.mantissa * 2 ^ c.power_of-power.result.exponent
      ≤ ONE * v) (sym (pow_one c.args.x)) c.power_of-power.ensures.below;
  close = subst
      (λ (v : ℕ). ONE * v * ONE
      ≤ c.power_of-power.result.mantissa * (ONE + 4) * 2 ^ c.power_of-power.result.exponent)
      (sym (pow_one c.args.x))
      (begun_below c.args.x c.power_of-power.result.mantissa
      (2 ^ c.power_of-power.result.exponent) c.power_of-power.ensures.range.0
      c.power_of-power.ensures.above);
}

pub square_below-power-requires-clause-exponent : goal.square_below-power-requires-clause-exponent
square_below-power-requires-clause-exponent c =
    let few : 2 ^ c.loop-i.i ≤ 2 ^ 36 = powers_few c.loop-i.i (omega arith) in
    omega (arith, few, c.loop-i.invariant.exponent)

pub loop-i-preserved : goal.loop-i-preserved
loop-i-preserved c =
    let kept = c.loop-i.invariant in
    let next : 2 ^ (c.loop-i.i + 1) ≡ 2 ^ c.loop-i.i * 2 = next_power c.loop-i.i in
    let power = c.square_below-power.result in
    record {
      least = c.square_below-power.ensures.range.0;
      most = c.square_below-power.ensures.range.1;
      exponent = omega (arith, next, kept.exponent, c.square_below-power.ensures.exponent);
      below = subst (λ (v : ℕ). power.mantissa * 2 ^ power.exponent ≤ ONE * v)
          (squared c.args.x c.loop-i.i)
          (c.square_below-power.ensures.below (c.args.x ^ (2 ^ c.loop-i.i)) kept.below);
      close = rw (parts_more c.loop-i.i, ← squared c.args.x c.loop-i.i)
          (closer_below (c.args.x ^ (2 ^ c.loop-i.i)) c.loop-i.power.mantissa
          (2 ^ c.loop-i.power.exponent) power.mantissa (2 ^ power.exponent) (parts c.loop-i.i)
          (parts_least c.loop-i.i) (parts_few c.loop-i.i c.loop-i-test.true) kept.close
          (rw (double c.loop-i.power.exponent) at c.square_below-power.ensures.close));
    }

pub returns-clause-below : goal.returns-clause-below
unfolding at_scale
returns-clause-below c =
    let kept = c.loop-i.invariant in
    let last : c.loop-i.i ≡ 36 = omega arith in
    let below : c.loop-i.power.mantissa * 2 ^ c.loop-i.power.exponent
    ≤ ONE * c.args.x ^ (2 ^ 36) =
    subst (λ (i : ℕ). c.loop-i.power.mantissa * 2 ^ c.loop-i.power.exponent
    ≤ ONE * c.args.x ^ (2 ^ i)) last kept.below in
    least_power c.loop-i.power.mantissa c.loop-i.power.exponent (c.args.x ^ (2 ^ 36)) kept.least
    below

pub returns-clause-close : goal.returns-clause-close
unfolding at_scale
returns-clause-close c =
    let kept = c.loop-i.invariant in
    let m = c.loop-i.power.mantissa in
    let p : ℕ = 2 ^ c.loop-i.power.exponent in
    let last : c.loop-i.i ≡ 36 = omega arith in
    let close : ONE * c.args.x ^ (2 ^ 36) * ONE ≤ m * (ONE + parts 36) * p =
    subst (λ (i : ℕ). ONE * c.args.x ^ (2 ^ i) * ONE ≤ m * (ONE + parts i) * p) last kept.close in
    rw pow-add (close_below (c.args.x ^ (2 ^ 36)) m p (pow_pos c.loop-i.power.exponent) kept.most
    close)

pub returns-clause-bound : goal.returns-clause-bound
returns-clause-bound c =
    let few : 2 ^ c.loop-i.i ≤ 2 ^ 36 = powers_few c.loop-i.i (omega arith) in
    omega (arith, few, c.loop-i.invariant.exponent)
