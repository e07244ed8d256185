-- Bounds of squares.
use Rattle.std.proofs.Common.{ℕ, ◌+◌, ◌*◌, ◌/◌, ◌^◌, ◌<◌, ◌≤◌, ◌≡◌, arith, sym, ap, ◌∙◌}
use Rattle.std.proofs.lemmas.Nat.{mul-le, pow-add}
use Rattle.std.proofs.lemmas.Grind.{pow_more}
use Rattle.std.proofs.Math.Nat.{le_of_mul-le-mul_left, mul-le-mul_right, mul-div-le}
use Rattle.std.proofs.Math.Nat.{pow-le-pow_right, pow-suc, pow-zero, one-mul}
use Rattle.bw_owned.specs.declared.logarithm.TheConstants.{ONE, TWO}

-- at most the square of what the number is at most
pub square-le : (one x e q v : ℕ) → 0 < one → one * q ≤ x * x → x * e ≤ one * v
    → q * (e * e) ≤ one * (v * v)
square-le one x e q v positive quotient within =
    let squares : (x * e) * (x * e) ≤ (one * v) * (one * v) = mul-le (x * e) (x * e) (one * v)
    (one * v) within within in
    let scaled : (one * q) * (e * e) ≤ (x * x) * (e * e) = mul-le-mul_right (e * e) quotient in
    let all : one * (q * (e * e)) ≤ one * (one * (v * v)) = omega (arith, squares, scaled) in
    le_of_mul-le-mul_left all positive

-- at least the square of what the number is at least
pub le-square : (one x e q v : ℕ) → 0 < one → x * x ≤ one * q → one * v ≤ x * e
    → one * (v * v) ≤ q * (e * e)
le-square one x e q v positive quotient within =
    let squares : (one * v) * (one * v) ≤ (x * e) * (x * e) = mul-le (one * v) (one * v) (x * e)
    (x * e) within within in
    let scaled : (x * x) * (e * e) ≤ (one * q) * (e * e) = mul-le-mul_right (e * e) quotient in
    let all : one * (one * (v * v)) ≤ one * (q * (e * e)) = omega (arith, squares, scaled) in
    le_of_mul-le-mul_left all positive

-- the power of twice an exponent
pub double : (e : ℕ) → 2 ^ (2 * e) ≡ 2 ^ e * 2 ^ e
double e = let twice : 2 * e ≡ e + e = omega arith in ap (λ (n : ℕ). 2 ^ n) twice ∙ pow-add 2 e e

-- a half, rounded down, at the next exponent
pub half-le : (m e n : ℕ) → m * 2 ^ e ≤ n → m / 2 * 2 ^ (e + 1) ≤ n
half-le m e n within =
    let next : 2 ^ (e + 1) ≡ 2 ^ e * 2 = pow_more 2 e in
    let half : 2 * (m / 2) ≤ m = mul-div-le m 2 in
    let scaled : (2 * (m / 2)) * 2 ^ e ≤ m * 2 ^ e = mul-le-mul_right (2 ^ e) half in
    rw next (omega (arith, scaled, within))

-- more than a half, at the next exponent
pub le-half : (m h e n : ℕ) → m ≤ 2 * h → n ≤ m * 2 ^ e → n ≤ h * 2 ^ (e + 1)
le-half m h e n half within =
    let next : 2 ^ (e + 1) ≡ 2 ^ e * 2 = pow_more 2 e in
    let scaled : m * 2 ^ e ≤ (2 * h) * 2 ^ e = mul-le-mul_right (2 ^ e) half in
    rw next (omega (arith, scaled, within))

-- the square of the power of an exponent of two
pub squared : (x i : ℕ) → x ^ (2 ^ i) * x ^ (2 ^ i) ≡ x ^ (2 ^ (i + 1))
squared x i =
    let next : 2 ^ (i + 1) ≡ 2 ^ i + 2 ^ i = pow_more 2 i ∙ omega arith in
    sym (ap (λ (n : ℕ). x ^ n) next ∙ pow-add x (2 ^ i) (2 ^ i))

-- the power of one more
pub next_power : (i : ℕ) → 2 ^ (i + 1) ≡ 2 ^ i * 2
next_power i = pow_more 2 i

-- powers of few
pub powers_few : (i : ℕ) → i ≤ 36 → 2 ^ i ≤ 2 ^ 36
powers_few i few = pow-le-pow_right (omega arith) few

-- a mantissa of at least 1 is at least the power of its exponent
pub least_power : (m e v : ℕ) → ONE ≤ m → m * 2 ^ e ≤ ONE * v → 2 ^ e ≤ v
least_power m e v least within =
    let scaled : ONE * 2 ^ e ≤ m * 2 ^ e = mul-le-mul_right (2 ^ e) least in
    omega (arith, scaled, within)

-- a mantissa of at most 2 is at most the power of the next exponent
pub most_power : (m e v : ℕ) → m ≤ TWO → ONE * v ≤ m * 2 ^ e → v ≤ 2 ^ (e + 1)
most_power m e v most within =
    let next : 2 ^ (e + 1) ≡ 2 ^ e * 2 = pow_more 2 e in
    let scaled : m * 2 ^ e ≤ TWO * 2 ^ e = mul-le-mul_right (2 ^ e) most in
    rw next (omega (arith, scaled, within))

-- the power of the exponent 1
pub pow_one : (x : ℕ) → x ^ 1 ≡ x
pow_one x = pow-suc x 0 ∙ ap (λ (n : ℕ). n * x) (pow-zero x) ∙ one-mul x
