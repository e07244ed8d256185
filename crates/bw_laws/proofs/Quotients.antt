-- Quotients: rounding loses less than one, and a greater ratio has no smaller quotient.
use Rattle.std.proofs.Common.{ℕ, ◌+◌, ◌*◌, ◌/◌, ◌<◌, ◌≤◌, arith}
use Rattle.std.proofs.Math.Nat.{div-mul-le_self, lt-div-mul-add, le_of_mul-le-mul_left}
use Rattle.std.proofs.Math.Nat.{mul-le-mul_right, lt_of_mul-lt-mul_left}
use Rattle.std.proofs.lemmas.Nat.{le-div}

-- a / b is no more than x / y where a y is no more than x b
pub div-cross : (a b x y : ℕ) → 0 < b → 0 < y → a * y ≤ x * b → a / b ≤ x / y
div-cross a b x y some_b some_y cross =
    let below : a / b * b ≤ a = div-mul-le_self a b in
    let times : a / b * b * y ≤ a * y = mul-le-mul_right y below in
    let scaled : b * (a / b * y) ≤ b * x = omega (arith, times, cross) in
    le-div (a / b) x y some_y (le_of_mul-le-mul_left scaled some_b)

-- a quotient is less than one below
pub div-above : (a d : ℕ) → 0 < d → a < (a / d + 1) * d
div-above a d some =
    let more : a < a / d * d + d = lt-div-mul-add some in
    omega (arith, more)

-- the least q with a < (q + 1) d
pub div-le : (a d q : ℕ) → 0 < d → a < (q + 1) * d → a / d ≤ q
div-le a d q some more =
    let below : a / d * d ≤ a = div-mul-le_self a d in
    let scaled : d * (a / d) < d * (q + 1) = omega (arith, below, more) in
    let less : a / d < q + 1 = lt_of_mul-lt-mul_left d scaled in
    omega (arith, less)
