-- The last two digits of a number.
use Rattle.std.proofs.Common.{◌≡◌, ℕ, ◌+◌, ◌/◌, ◌%◌, ◌^◌, ◌<◌, ◌≤◌, List, [], ◌∷◌, ◌++◌, ap, ◌∙◌}
use Rattle.std.proofs.Common.{arith, append_assoc}
use Rattle.std.specs.Fmt.{decimal}
use Rattle.std.proofs.lemmas.Fmt.{decimal_digit, decimal_step}

-- a number of two digits
pub two_digits : (n : ℕ) → 10 ≤ n → n < 100
    → decimal n ≡ (48 + n / 10) ∷ (48 + n % 10) ∷ []
two_digits n low high =
    decimal_step n low (omega (arith, high))
    ∙ ap (λ ds. ds ++ (48 + n % 10) ∷ []) (decimal_digit (n / 10) (omega (arith, high)))

-- a number of three digits or more
pub last_two : (n : ℕ) → 100 ≤ n → n < 2 ^ 64
    → decimal n ≡ decimal (n / 100) ++ (48 + n % 100 / 10) ∷ (48 + n % 100 % 10) ∷ []
last_two n low high =
    let above : n / 10 / 10 ≡ n / 100 = omega arith in
    let tens : n / 10 % 10 ≡ n % 100 / 10 = omega arith in
    let ones : n % 10 ≡ n % 100 % 10 = omega arith in
    decimal_step n (omega (arith, low)) high
    ∙ ap (λ ds. ds ++ (48 + n % 10) ∷ [])
    (decimal_step (n / 10) (omega (arith, low)) (omega (arith, high)))
    ∙ append_assoc (decimal (n / 10 / 10)) ((48 + n / 10 % 10) ∷ []) ((48 + n % 10) ∷ [])
    ∙ ap (λ m. decimal m ++ (48 + n / 10 % 10) ∷ (48 + n % 10) ∷ []) above
    ∙ ap (λ d. decimal (n / 100) ++ (48 + d) ∷ (48 + n % 10) ∷ []) tens
    ∙ ap (λ d. decimal (n / 100) ++ (48 + n % 100 / 10) ∷ (48 + d) ∷ []) ones

-- a number of five digits or more
pub last_four : (n : ℕ) → 10000 ≤ n → n < 2 ^ 64
    → decimal n ≡ (decimal (n / 10000)
    ++ (48 + n / 100 % 100 / 10) ∷ (48 + n / 100 % 100 % 10) ∷ [])
    ++ (48 + n % 100 / 10) ∷ (48 + n % 100 % 10) ∷ []
last_four n low high =
    let above : n / 100 / 100 ≡ n / 10000 = omega arith in
    let last = (48 + n % 100 / 10) ∷ (48 + n % 100 % 10) ∷ [] in
    last_two n (omega (arith, low)) high
    ∙ ap (λ ds. ds ++ last) (last_two (n / 100) (omega (arith, low)) (omega (arith, high))
    ∙ ap (λ m. decimal m ++ (48 + n / 100 % 100 / 10) ∷ (48 + n / 100 % 100 % 10) ∷ []) above)
