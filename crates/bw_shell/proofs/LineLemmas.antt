-- The lines of a text, from a front without newlines.
use Rattle.std.proofs.Common.{◌≡◌, ◌<◌, ℕ, zero, suc, List, [], ◌∷◌, ◌++◌, ◌==◌, false, length}
use Rattle.std.proofs.Common.{take, drop, slice_index, refl, ap, subst, arith, inl, inr}
use Rattle.std.proofs.lemmas.Bool.{cases_Bool}
use Rattle.std.proofs.lemmas.Bool.Decides.{eqb_tells}
use Rattle.memchr.specs.Find.{Nowhere, NoneBefore, Passes, is_byte}
use Rattle.bw_commands.specs.Lines.{lines_of, whole_lines_of, onto_first}

-- no byte is a newline
abbrev pub NoNewline : List ℕ → Type 0
NoNewline [] = Unit {0}
NoNewline (b ∷ bs) = ((b == 10) ≡ false) × NoNewline bs

-- a last line, if any byte is left
abbrev pub last_line : List ℕ → List (List ℕ)
last_line [] = []
last_line (b ∷ bs) = (b ∷ bs) ∷ []

pub NoNewline-push : (cur : List ℕ) (b : ℕ) → NoNewline cur → (b == 10) ≡ false
    → NoNewline (cur ++ b ∷ [])
NoNewline-push [] b n e = (e, tt)
NoNewline-push (x ∷ xs) b n e = (n.0, NoNewline-push xs b n.1 e)

onto_last : (b : ℕ) (bs : List ℕ) → onto_first b (last_line bs) ≡ (b ∷ bs) ∷ []
onto_last b [] = refl
onto_last b (c ∷ cs) = refl

pub lines_of-cut : (cur : List ℕ) → NoNewline cur → lines_of cur ≡ last_line cur
unfolding lines_of
lines_of-cut [] n = refl
lines_of-cut (b ∷ bs) n = rw (n.0, lines_of-cut bs n.1) (onto_last b bs)

pub whole_lines_of-cut : (cur : List ℕ) → NoNewline cur → whole_lines_of cur ≡ []
unfolding whole_lines_of
whole_lines_of-cut [] n = refl
whole_lines_of-cut (b ∷ bs) n = rw (n.0, whole_lines_of-cut bs n.1) refl

pub lines_of-newline : (cur xs : List ℕ) → NoNewline cur
    → lines_of (cur ++ 10 ∷ xs) ≡ cur ∷ lines_of xs
unfolding lines_of
lines_of-newline [] xs n = refl
lines_of-newline (b ∷ bs) xs n = rw (n.0, lines_of-newline bs xs n.1) refl

pub whole_lines_of-newline : (cur xs : List ℕ) → NoNewline cur
    → whole_lines_of (cur ++ 10 ∷ xs) ≡ cur ∷ whole_lines_of xs
unfolding whole_lines_of
whole_lines_of-newline [] xs n = refl
whole_lines_of-newline (b ∷ bs) xs n = rw (n.0, whole_lines_of-newline bs xs n.1) refl

-- ---- what stands behind a place

pub first_of_drop : (n : ℕ) (xs : List ℕ) → slice_index (drop n xs) 0 ≡ slice_index xs n
first_of_drop zero xs = refl
first_of_drop (suc n) [] = refl
first_of_drop (suc n) (x ∷ xs) = first_of_drop n xs

-- ---- where the first newline stands

clean_front : (n : ℕ) (xs : List ℕ) → ((k : ℕ) → k < n → Passes (is_byte 10) xs k → ⊥)
    → NoNewline (take n xs)
clean_front zero xs h = tt
clean_front (suc n) [] h = tt
clean_front (suc n) (x ∷ xs) h = elim (cases_Bool (x == 10)) [
  | inl t ↦ absurd (h 0 (omega arith) t)
  | inr f ↦ (f, clean_front n xs (λ k lt. h (suc k) (omega (arith, lt))))
]

from_newline : (n : ℕ) (xs : List ℕ) → n < length xs → Passes (is_byte 10) xs n
    → drop n xs ≡ 10 ∷ drop 1 (drop n xs)
from_newline n [] lt e = absurd (let bad : ⊥ = omega (arith, lt) in bad)
from_newline zero (x ∷ xs) lt e = elim (eqb_tells x 10) [
  | inl h ↦ ap (λ b. b ∷ xs) h.1
  | inr h ↦ absurd (h.1 (let bad : x ≡ 10 = cc in bad))
]
from_newline (suc n) (x ∷ xs) lt e = from_newline n xs (omega (arith, lt)) e

-- what stands in front of the first newline has none
pub first_newline-front : (xs : List ℕ) (n : ℕ)
    → NoneBefore (Passes (is_byte 10) xs) 0 (length xs) n → NoNewline (take n xs)
first_newline-front xs n h = clean_front n xs (λ k lt. h.before k (omega arith) lt)

-- and behind it the newline and the rest do
pub first_newline-rest : (xs : List ℕ) (n : ℕ) → NoneBefore (Passes (is_byte 10) xs) 0 (length xs) n
    → Passes (is_byte 10) xs n
    → drop n xs ≡ 10 ∷ drop 1 (drop n xs)
first_newline-rest xs n h e = from_newline n xs h.high e

take_all : (xs : List ℕ) → take (length xs) xs ≡ xs
take_all [] = refl
take_all (x ∷ xs) = ap (λ l. x ∷ l) (take_all xs)

-- a text in which none is found
pub no_newline : (xs : List ℕ) → Nowhere (Passes (is_byte 10) xs) 0 (length xs) → NoNewline xs
no_newline xs h =
    subst NoNewline (take_all xs) (clean_front (length xs) xs (λ k lt. h k (omega arith) lt))
