-- Two numbers less than n apart that leave the same remainder by n are the same.
use Rattle.std.proofs.Common.{◌≡◌, ℕ, suc, ◌+◌, ◌*◌, ◌/◌, ◌%◌, ◌<◌, ◌≤◌, sym, ap, ◌∙◌}
use Rattle.std.proofs.Common.{mul-le-mul_right, suc-mul, lt_of_not-le, div-add-mod', arith}
use native.Mathlib.Decide.{dec_le}

further : (x y n : ℕ) → x < y → x * n + n ≤ y * n
further x y n h = let a : suc x * n ≤ y * n = mul-le-mul_right n h in omega (arith, suc-mul x n)

turns : (a b n : ℕ) → a ≤ b → b < a + n → a % n ≡ b % n → Dec (b / n ≤ a / n) → a ≡ b
turns a b n le lt e (yes d) = let m : b / n * n ≤ a / n * n = mul-le-mul_right n d in
    let p = div-add-mod' a n in let q = div-add-mod' b n in
    let x : ℕ = a / n * n in let y : ℕ = b / n * n in let r : ℕ = b % n in
    let p' : x + r ≡ a = ap (λ (k : ℕ). x + k) (sym e) ∙ p in
    let q' : y + r ≡ b = q in let m' : y ≤ x = m in omega arith
turns a b n le lt e (no d) = let m = further (a / n) (b / n) n (lt_of_not-le d) in
    let p = div-add-mod' a n in let q = div-add-mod' b n in
    let x : ℕ = a / n * n in let y : ℕ = b / n * n in let r : ℕ = b % n in
    let p' : x + r ≡ a = ap (λ (k : ℕ). x + k) (sym e) ∙ p in
    let q' : y + r ≡ b = q in let m' : x + n ≤ y = m in absurd (omega arith)

pub one_turn : (a b n : ℕ) → a ≤ b → b < a + n → a % n ≡ b % n → a ≡ b
one_turn a b n le lt e = turns a b n le lt e (dec_le (b / n) (a / n))
