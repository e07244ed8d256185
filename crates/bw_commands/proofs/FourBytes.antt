-- The front of a text, by two words of four bytes.
use Rattle.std.proofs.Common.{◌≡◌, ℕ, ◌+◌, ◌<◌, ◌≤◌, ◌++◌, List, take, drop, length, get_or, refl}
use Rattle.std.proofs.Common.{sym, ap, ◌∙◌, subst, arith, inl, inr}
use Rattle.std.specs.Int.{w32, from_le_bytes, to_le_bytes}
use Rattle.std.specs.Simd.Lanes.{chunk}
use Rattle.std.proofs.Math.ListN.{get_or-eq_default}
use Rattle.std.proofs.lemmas.Bool.{cases_lt}
use Rattle.std.proofs.lemmas.Nat.{le_bytes_4}
use Rattle.std.proofs.lemmas.Simd.{length-chunk}
use Rattle.std.proofs.lemmas.List.{take-append-drop, take-take, drop-take, take_all, length-drop, length-take}
use Rattle.std.proofs.lemmas.List.{get_or-take, get_or-drop}

abbrev pub AreBytes : List ℕ → Type 0
AreBytes xs = (i : ℕ) → get_or xs i 0 < 256

chunk_bytes : (xs : List ℕ) (at n : ℕ) → AreBytes xs → AreBytes (chunk at n xs)
chunk_bytes xs at n bytes i = elim (cases_lt i n) [
  | inl lt ↦ subst (λ b. b < 256) (sym (get_or-take n (drop at xs) i 0 lt ∙ get_or-drop at xs i 0))
      (bytes (at + i))
  | inr past ↦ subst (λ b. b < 256)
      (sym (get_or-eq_default (chunk at n xs) 0 (omega (arith, length-take n (drop at xs), past))))
      (omega arith)
]

-- four bytes are those of their number
pub same_four : (xs ys : List ℕ) (at : ℕ) → at + 4 ≤ length xs → at + 4 ≤ length ys
    → AreBytes xs → AreBytes ys
    → from_le_bytes w32 (chunk at 4 xs) ≡ from_le_bytes w32 (chunk at 4 ys)
    → chunk at 4 xs ≡ chunk at 4 ys
same_four xs ys at long_xs long_ys bytes_xs bytes_ys same =
    sym (le_bytes_4 (chunk at 4 xs) (from_le_bytes w32 (chunk at 4 xs)) (length-chunk at 4 xs long_xs)
    (chunk_bytes xs at 4 bytes_xs) refl)
    ∙ ap (to_le_bytes w32) same
    ∙ le_bytes_4 (chunk at 4 ys) (from_le_bytes w32 (chunk at 4 ys)) (length-chunk at 4 ys long_ys)
    (chunk_bytes ys at 4 bytes_ys) refl

-- the first k + 4 bytes, by the first four and the last four
pub same_front : (xs ys : List ℕ) (k : ℕ) → k ≤ 4 → length ys ≡ k + 4
    → chunk 0 4 xs ≡ chunk 0 4 ys → chunk k 4 xs ≡ chunk k 4 ys → take (k + 4) xs ≡ ys
same_front xs ys k few long front back =
    let first : take k xs ≡ take k ys =
    sym (take-take k 4 xs few) ∙ ap (take k) front ∙ take-take k 4 ys few in
    let last : take 4 (drop k ys) ≡ drop k ys =
    take_all 4 (drop k ys) (omega (arith, length-drop k ys, long)) in
    sym (take-append-drop k (take (k + 4) xs))
    ∙ ap (λ (l : List ℕ). l ++ drop k (take (k + 4) xs)) (take-take k (k + 4) xs (omega arith) ∙ first)
    ∙ ap (λ (l : List ℕ). take k ys ++ l) (drop-take k 4 xs ∙ back ∙ last)
    ∙ take-append-drop k ys

-- the last four of the first k + 4 bytes
pub last_four : (xs ys : List ℕ) (k : ℕ) → take (k + 4) xs ≡ ys → chunk k 4 xs ≡ chunk k 4 ys
last_four xs ys k is =
    sym (ap (take 4) (drop-take k 4 xs) ∙ take-take 4 4 (drop k xs) (omega arith))
    ∙ ap (λ (l : List ℕ). take 4 (drop k l)) is
