-- More processor time takes no fewer slices.
use Rattle.std.proofs.Common.{ℕ, ◌+◌, ◌-◌, ◌*◌, ◌/◌, ◌<◌, ◌≤◌, arith}
use Rattle.std.proofs.Math.Nat.{div-mul-le_self, mul-le-mul_right}
use Rattle.std.proofs.lemmas.Nat.{le-div}
use Rattle.bw_model.specs.Host.{Shape}
use Rattle.bw_questions.specs.Hunger.{slices_of_time}

pub div-mono : (a b d : ℕ) → 0 < d → a ≤ b → a / d ≤ b / d
div-mono a b d above within =
    le-div (a / d) b d above (omega (arith, div-mul-le_self a d, within))

pub slices-mono : (shape : Shape) (passed s t : ℕ) → 1 ≤ passed → 1 ≤ shape.slice_us → s ≤ t
    → slices_of_time shape passed s ≤ slices_of_time shape passed t
slices-mono shape passed s t some_time some_slice within =
    let above : 0 < passed * shape.slice_us =
    omega (arith, mul-le-mul_right shape.slice_us some_time) in
    let period = shape.period_us in
    let slice = passed * shape.slice_us in
    let times : s * period ≤ t * period = mul-le-mul_right period within in
    let both : s * period + (slice - 1) ≤ t * period + (slice - 1) = omega (arith, times) in
    let more = div-mono (s * period + (slice - 1)) (t * period + (slice - 1)) slice above both in
    omega (arith, more)
