-- Rising lists of numbers: two that have the same numbers are one.
use Rattle.std.proofs.Common.{◌≡◌, ℕ, zero, suc, ◌+◌, ◌<◌, ◌≤◌, List, [], ◌∷◌, Bool, cond}
use Rattle.std.proofs.Common.{true, false, refl, ap, sym, ◌∙◌, ◌⊎◌, arith, inl, inr}
use Rattle.std.specs.Prelude.{⊤, filter, map}
use Rattle.std.specs.List.{range_with_len}
use Rattle.std.proofs.lemmas.Bool.{cases_eq, cases_Bool}

-- each number is greater than the one before, and the first is at least so much
abbrev pub IsRising : ℕ → List ℕ → Type 0
IsRising least [] = ⊤
IsRising least (x ∷ xs) = (least ≤ x) × IsRising (x + 1) xs

abbrev pub IsIn : ℕ → List ℕ → Type 0
IsIn y [] = ⊥
IsIn y (x ∷ xs) = (y ≡ x) ⊎ IsIn y xs

rising_from : (least y : ℕ) (xs : List ℕ) → IsRising least xs → IsIn y xs → least ≤ y
rising_from least y [] rising here = absurd here
rising_from least y (x ∷ xs) rising (inl same) = omega (arith, rising.0, same)
rising_from least y (x ∷ xs) rising (inr rest) =
    omega (arith, rising.0, rising_from (x + 1) y xs rising.1 rest)

rising_lower : (low least : ℕ) (xs : List ℕ) → low ≤ least → IsRising least xs → IsRising low xs
rising_lower low least [] below rising = tt
rising_lower low least (x ∷ xs) below rising = (omega (arith, below, rising.0), rising.1)

first_same : (x y : ℕ) (xs ys : List ℕ) → IsRising (x + 1) xs → IsRising (y + 1) ys
    → (x ≡ y) ⊎ IsIn x ys → (y ≡ x) ⊎ IsIn y xs → x ≡ y
first_same x y xs ys left right (inl same) back = same
first_same x y xs ys left right (inr later) (inl same) = sym same
first_same x y xs ys left right (inr later) (inr earlier) =
    absurd (omega (
      arith,
      rising_from (y + 1) x ys right later,
      rising_from (x + 1) y xs left earlier,
    ))

past_first : (x y z : ℕ) (xs ys : List ℕ) → x ≡ y → IsRising (x + 1) xs → IsIn z xs
    → (z ≡ y) ⊎ IsIn z ys → IsIn z ys
past_first x y z xs ys first rising here (inl same) =
    absurd (omega (arith, first, same, rising_from (x + 1) z xs rising here))
past_first x y z xs ys first rising here (inr rest) = rest

pub rising_same : (least : ℕ) (xs ys : List ℕ) → IsRising least xs → IsRising least ys
    → ((y : ℕ) → IsIn y xs → IsIn y ys) → ((y : ℕ) → IsIn y ys → IsIn y xs) → xs ≡ ys
rising_same least [] [] left right to back = refl
rising_same least [] (y ∷ ys) left right to back = absurd (back y (inl refl))
rising_same least (x ∷ xs) [] left right to back = absurd (to x (inl refl))
rising_same least (x ∷ xs) (y ∷ ys) left right to back =
    let first : x ≡ y =
    first_same x y xs ys left.1 right.1 (to x (inl refl)) (back y (inl refl)) in
    let rest : xs ≡ ys =
    rising_same (x + 1) xs ys left.1 (rw first right.1)
    (λ z here. past_first x y z xs ys first left.1 here (to z (inr here)))
    (λ z here. past_first y x z ys xs (sym first) right.1 here (back z (inr here))) in
    cc

cond_rising : (b : Bool) (x : ℕ) (xs : List ℕ) → IsRising (x + 1) xs
    → IsRising x (cond b (x ∷ xs) xs)
cond_rising true x xs rising = (omega arith, rising)
cond_rising false x xs rising = rising_lower x (x + 1) xs (omega arith) rising

pub filter_rising : (p : ℕ → Bool) (a m : ℕ) → IsRising a (filter p (range_with_len a m))
filter_rising p a zero = tt
filter_rising p a (suc m) =
    cond_rising (p a) a (filter p (range_with_len (a + 1) m)) (filter_rising p (a + 1) m)

cond_in : (b : Bool) (x y : ℕ) (xs : List ℕ) → IsIn y xs → IsIn y (cond b (x ∷ xs) xs)
cond_in true x y xs here = inr here
cond_in false x y xs here = here

pub in_filter : (p : ℕ → Bool) (a m y : ℕ) → a ≤ y → y < a + m → p y ≡ true
    → IsIn y (filter p (range_with_len a m))
in_filter p a zero y low high passes = absurd (omega (arith, low, high))
in_filter p a (suc m) y low high passes = elim (cases_eq y a) [
  | inl first ↦
      let here : p a ≡ true = ap p (sym first) ∙ passes in
      rw here (inl first)
  | inr other ↦
      cond_in (p a) a y (filter p (range_with_len (a + 1) m))
      (in_filter p (a + 1) m y (omega (arith, low, other)) (omega (arith, high)) passes)
]

from_kept : (p : ℕ → Bool) (a m y : ℕ) → p a ≡ true
    → (y ≡ a) ⊎ IsIn y (filter p (range_with_len (a + 1) m))
    → (IsIn y (filter p (range_with_len (a + 1) m))
    → (a + 1 ≤ y) × (y < a + 1 + m) × (p y ≡ true))
    → (a ≤ y) × (y < a + suc m) × (p y ≡ true)
from_kept p a m y kept (inl same) rest =
    (omega (arith, same), omega (arith, same), ap p same ∙ kept)
from_kept p a m y kept (inr here) rest =
    let found : (a + 1 ≤ y) × (y < a + 1 + m) × (p y ≡ true) = rest here in
    (omega (arith, found.0), omega (arith, found.1), found.2)

pub from_filter : (p : ℕ → Bool) (a m y : ℕ) → IsIn y (filter p (range_with_len a m))
    → (a ≤ y) × (y < a + m) × (p y ≡ true)
from_filter p a zero y here = absurd here
from_filter p a (suc m) y here = elim (cases_Bool (p a)) [
  | inl kept ↦ from_kept p a m y kept (rw kept at here) (from_filter p (a + 1) m y)
  | inr left_out ↦
      let rest : (a + 1 ≤ y) × (y < a + 1 + m) × (p y ≡ true) =
      from_filter p (a + 1) m y (rw left_out at here) in
      (omega (arith, rest.0), omega (arith, rest.1), rest.2)
]

pub in_map : (f : ℕ → ℕ) (x : ℕ) (xs : List ℕ) → IsIn x xs → IsIn (f x) (map f xs)
in_map f x [] here = absurd here
in_map f x (y ∷ ys) (inl same) = inl (ap f same)
in_map f x (y ∷ ys) (inr rest) = inr (in_map f x ys rest)

pub from_map : (f : ℕ → ℕ) (y : ℕ) (xs : List ℕ) → IsIn y (map f xs)
    → (x : ℕ) × IsIn x xs × (y ≡ f x)
from_map f y [] here = absurd here
from_map f y (x ∷ xs) (inl same) = (x, inl refl, same)
from_map f y (x ∷ xs) (inr rest) =
    let found : (z : ℕ) × IsIn z xs × (y ≡ f z) = from_map f y xs rest in
    (found.0, inr found.1, found.2)

pub map_rising : (f : ℕ → ℕ) (a b : ℕ) (xs : List ℕ) → IsRising a xs
    → ((x : ℕ) → IsIn x xs → b ≤ f x)
    → ((x y : ℕ) → IsIn x xs → IsIn y xs → x < y → f x < f y) → IsRising b (map f xs)
map_rising f a b [] rising low up = tt
map_rising f a b (x ∷ xs) rising low up = (
  low x (inl refl),
  map_rising f (x + 1) (f x + 1) xs rising.1
      (λ y here.
      let after : x < y = omega (arith, rising_from (x + 1) y xs rising.1 here) in
      let more : f x < f y = up x y (inl refl) (inr here) after in
      omega (arith, more))
      (λ y z here there. up y z (inr here) (inr there)),
)
