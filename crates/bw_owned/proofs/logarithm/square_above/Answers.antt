-- The goals of `square_above` that are answered by hand.
use Rattle.std.proofs.Common.{ℕ, ◌+◌, ◌-◌, ◌*◌, ◌/◌, ◌^◌, ◌≤◌, ◌≡◌, arith}
use Rattle.std.proofs.lemmas.Nat.{mul-le}
use Rattle.std.proofs.Math.Nat.{mul-le-mul_right}
use Rattle.bw_owned.specs.declared.logarithm.TheConstants.{ONE}
use Rattle.bw_owned.proofs.Closeness.{above_quotient, above_half}
use Rattle.bw_owned.proofs.Squares.{le-square, double, le-half, next_power}
use Rattle.bw_owned.proofs.logarithm.square_above.Goals as goal

-- a quotient that is rounded up
up : (a : ℕ) → a ≤ ONE * ((a + (ONE - 1)) / ONE)
up a = omega arith

pub returns-then-mantissa-le-TWO-clause-above : goal.returns-then-mantissa-le-TWO-clause-above
returns-then-mantissa-le-TWO-clause-above c = λ v within.
    let m = c.args.power.mantissa in
    let e = c.args.power.exponent in
    rw (double e) (le-square ONE m (2 ^ e) ((m * m + (ONE - 1)) / ONE) v (omega arith) (up (m * m))
    within)

pub returns-clause-above : goal.returns-clause-above
returns-clause-above c = λ v within.
    let m = c.args.power.mantissa in
    let e = c.args.power.exponent in
    let q : ℕ = (m * m + (ONE - 1)) / ONE in
    le-half q ((q + 1) / 2) (2 * e) (ONE * (v * v)) (omega arith)
    (rw (double e) (le-square ONE m (2 ^ e) q v (omega arith) (up (m * m)) within))

pub returns-then-mantissa-le-TWO-clause-close : goal.returns-then-mantissa-le-TWO-clause-close
returns-then-mantissa-le-TWO-clause-close c =
    let m = c.args.power.mantissa in
    let e = c.args.power.exponent in
    let least : ONE * ONE ≤ m * m = mul-le ONE ONE m m c.requires.range.0 c.requires.range.0 in
    mul-le-mul_right (2 ^ (2 * e)) (above_quotient (m * m) least)

pub returns-clause-close : goal.returns-clause-close
returns-clause-close c =
    let m = c.args.power.mantissa in
    let e = c.args.power.exponent in
    let h : ℕ = ((m * m + (ONE - 1)) / ONE + 1) / 2 in
    let next : 2 ^ (2 * e + 1) ≡ 2 ^ (2 * e) * 2 = next_power (2 * e) in
    let least : ONE * ONE ≤ m * m = mul-le ONE ONE m m c.requires.range.0 c.requires.range.0 in
    let scaled : 2 * (h * (ONE * ONE)) * 2 ^ (2 * e) ≤ m * m * (ONE + 2) * 2 ^ (2 * e) =
    mul-le-mul_right (2 ^ (2 * e)) (above_half (m * m) least) in
    rw next (omega (arith, scaled))
