-- Lists of parts: where their sums differ, and a list without one of its numbers.
use Rattle.std.proofs.Common.{◌≡◌, ℕ, zero, suc, ◌+◌, ◌<◌, ◌≤◌, ◌⊎◌, List, [], ◌∷◌, length}
use Rattle.std.proofs.Common.{get_or, set, refl, ap, ◌∙◌, arith, inl, inr}
use Rattle.std.specs.Prelude.{sum, remove}
use Rattle.std.proofs.lemmas.Bool.{cases_lt}
use Rattle.bw_model.proofs.CallerLemmas.{sum-cons}

-- A list of at least the sum is greater somewhere, or it is the same list.
pub find_greater : (xs ys : List ℕ) → length xs ≡ length ys → sum xs ≤ sum ys
    → ((k : ℕ) × (k < length xs) × (get_or xs k 0 < get_or ys k 0)) ⊎ (xs ≡ ys)
find_greater [] [] e h = inr refl
find_greater [] (y ∷ ys) e h = absurd (omega (arith, e))
find_greater (x ∷ xs) [] e h = absurd (omega (arith, e))
find_greater (x ∷ xs) (y ∷ ys) e h = elim (cases_lt x y) [
  | inl less ↦ inl (0, omega arith, less)
  | inr rest ↦ elim (find_greater xs ys (omega (arith, e))
      (omega (arith, sum-cons x xs, sum-cons y ys, h, rest))) [
        | inl found ↦ inl (suc found.0, omega (arith, found.1), found.2)
        | inr same ↦
            let sums : sum xs ≡ sum ys = ap sum same in
            let head : x ≡ y =
            omega (arith, sums, sum-cons x xs, sum-cons y ys, h, rest) in
            inr (ap (λ z. z ∷ xs) head ∙ ap (λ zs. y ∷ zs) same)
      ]
]

-- A list that is nowhere less, and whose sum is one more, has one more at one place.
pub one_more : (xs ys : List ℕ) → length xs ≡ length ys
    → ((k : ℕ) → k < length xs → get_or xs k 0 ≤ get_or ys k 0) → sum ys ≡ sum xs + 1
    → (k : ℕ) × (k < length xs) × (ys ≡ set xs k (get_or xs k 0 + 1))
one_more [] [] e le s = absurd (omega (arith, s))
one_more [] (y ∷ ys) e le s = absurd (omega (arith, e))
one_more (x ∷ xs) [] e le s = absurd (omega (arith, e))
one_more (x ∷ xs) (y ∷ ys) e le s = elim (cases_lt x y) [
  | inl less ↦ elim (find_greater ys xs (omega (arith, e))
      (omega (arith, sum-cons x xs, sum-cons y ys, s, less))) [
        | inl found ↦ absurd
            (let least : get_or xs found.0 0 ≤ get_or ys found.0 0 =
            le (suc found.0) (omega (arith, found.1, e)) in
            omega (arith, least, found.2))
        | inr same ↦
            let sums : sum ys ≡ sum xs = ap sum same in
            let head : y ≡ x + 1 =
            omega (arith, sums, sum-cons x xs, sum-cons y ys, s) in
            (0, omega arith, ap (λ z. z ∷ ys) head ∙ ap (λ zs. (x + 1) ∷ zs) same)
      ]
  | inr rest ↦
      let first : x ≤ y = le 0 (omega arith) in
      let head : y ≡ x = omega (arith, first, rest) in
      let more : (k : ℕ) × (k < length xs) × (ys ≡ set xs k (get_or xs k 0 + 1)) =
      one_more xs ys (omega (arith, e)) (λ k below. le (suc k) (omega (arith, below)))
      (omega (arith, sum-cons x xs, sum-cons y ys, s, head)) in (
        suc more.0,
        omega (arith, more.1),
        ap (λ z. z ∷ ys) head ∙ ap (λ zs. x ∷ zs) more.2,
      )
]

-- a number outside a list is 0
pub outside : (xs : List ℕ) (k : ℕ) → length xs ≤ k → get_or xs k 0 ≡ 0
outside [] k h = refl
outside (x ∷ xs) zero h = absurd (omega (arith, h))
outside (x ∷ xs) (suc k) h = outside xs k (omega (arith, h))

pub removed_before : (xs : List ℕ) (r k : ℕ) → r < length xs → k < r
    → get_or (remove xs r) k 0 ≡ get_or xs k 0
removed_before [] r k h l = absurd (omega (arith, h))
removed_before (x ∷ xs) zero k h l = absurd (omega (arith, l))
removed_before (x ∷ xs) (suc r) zero h l = refl
removed_before (x ∷ xs) (suc r) (suc k) h l =
    removed_before xs r k (omega (arith, h)) (omega (arith, l))

pub removed_after : (xs : List ℕ) (r k : ℕ) → r < length xs → r ≤ k
    → get_or (remove xs r) k 0 ≡ get_or xs (suc k) 0
removed_after [] r k h l = absurd (omega (arith, h))
removed_after (x ∷ xs) zero k h l = refl
removed_after (x ∷ xs) (suc r) zero h l = absurd (omega (arith, l))
removed_after (x ∷ xs) (suc r) (suc k) h l =
    removed_after xs r k (omega (arith, h)) (omega (arith, l))

pub removed_sum : (xs : List ℕ) (r : ℕ) → r < length xs
    → sum (remove xs r) + get_or xs r 0 ≡ sum xs
removed_sum [] r h = absurd (omega (arith, h))
removed_sum (x ∷ xs) zero h = omega (arith, sum-cons x xs)
removed_sum (x ∷ xs) (suc r) h =
    omega (
      arith,
      sum-cons x xs,
      sum-cons x (remove xs r),
      removed_sum xs r (omega (arith, h)),
    )
