-- The goals of `square_below` that are answered by hand.
use Rattle.std.proofs.Common.{ℕ, ◌+◌, ◌*◌, ◌/◌, ◌^◌, ◌≤◌, ◌≡◌, arith}
use Rattle.std.proofs.lemmas.Nat.{mul-le}
use Rattle.std.proofs.Math.Nat.{mul-div-le, mul-le-mul_right}
use Rattle.bw_owned.specs.declared.logarithm.TheConstants.{ONE}
use Rattle.bw_owned.proofs.Closeness.{below_quotient, below_half}
use Rattle.bw_owned.proofs.Squares.{square-le, double, half-le, next_power}
use Rattle.bw_owned.proofs.logarithm.square_below.Goals as goal

pub returns-then-mantissa-lt-TWO-clause-below : goal.returns-then-mantissa-lt-TWO-clause-below
returns-then-mantissa-lt-TWO-clause-below c = λ v within.
    let m = c.args.power.mantissa in
    let e = c.args.power.exponent in
    rw (double e) (square-le ONE m (2 ^ e) (m * m / ONE) v (omega arith) (mul-div-le (m * m) ONE)
    within)

pub returns-clause-below : goal.returns-clause-below
returns-clause-below c = λ v within.
    let m = c.args.power.mantissa in
    let e = c.args.power.exponent in
    half-le (m * m / ONE) (2 * e) (ONE * (v * v))
    (rw (double e) (square-le ONE m (2 ^ e) (m * m / ONE) v (omega arith)
    (mul-div-le (m * m) ONE) within))

pub returns-then-mantissa-lt-TWO-clause-close : goal.returns-then-mantissa-lt-TWO-clause-close
returns-then-mantissa-lt-TWO-clause-close c =
    let m = c.args.power.mantissa in
    let e = c.args.power.exponent in
    let least : ONE * ONE ≤ m * m = mul-le ONE ONE m m c.requires.range.0 c.requires.range.0 in
    mul-le-mul_right (2 ^ (2 * e)) (below_quotient (m * m) (omega (arith, least)))

pub returns-clause-close : goal.returns-clause-close
returns-clause-close c =
    let m = c.args.power.mantissa in
    let e = c.args.power.exponent in
    let h : ℕ = m * m / ONE / 2 in
    let next : 2 ^ (2 * e + 1) ≡ 2 ^ (2 * e) * 2 = next_power (2 * e) in
    let scaled : m * m * 2 ^ (2 * e) ≤ 2 * (h * (ONE + 1)) * 2 ^ (2 * e) =
    mul-le-mul_right (2 ^ (2 * e)) (below_half (m * m) c.if-mantissa-lt-TWO.false) in
    rw next (omega (arith, scaled))
