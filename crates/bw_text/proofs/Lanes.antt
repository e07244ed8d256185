-- From the mask of one load to the first of two bytes in a text.
use Rattle.std.proofs.Common.{◌≡◌, ℕ, ◌+◌, ◌≤◌, ◌<◌, ◌%◌, ◌^◌, eqb, ◌||◌, Bool, true, false, cond}
use Rattle.std.proofs.Common.{List, [], ◌∷◌, map, length, get_or, replicate, refl, sym, ap, ap₂, ◌∙◌}
use Rattle.std.proofs.Common.{arith, inl, inr}
use Rattle.std.proofs.lemmas.Simd.{map-map, mask_l-mod, zip2_splat, zip2_of_maps}
use Rattle.std.proofs.lemmas.Simd.{run_in_chunk_fails, run_in_chunk_stops, run_in_chunk_le}
use Rattle.std.proofs.lemmas.Bool.{cases_lt}
use Rattle.std.proofs.lemmas.List.{length-map}
use Rattle.std.proofs.lemmas.List.Sums.{position_or_len_is}
use Rattle.std.specs.List.{position_or_len}
use Rattle.std.specs.Prelude.{bit_or}
use lib.Lanes.{zip2, mask_l, top, chunk}
use Rattle.bw_text.specs.Words.{is_either}

abbrev lane : ℕ → ℕ → ℕ
lane byte x = cond (eqb x byte) 255 0

both_lanes : (a b : Bool) → top 7 (bit_or (cond a 255 0) (cond b 255 0)) ≡ (a || b)
both_lanes true true = refl
both_lanes true false = refl
both_lanes false true = refl
both_lanes false false = refl

tops : (one other : ℕ) (v : List ℕ)
    → map (λ x. top 7 (bit_or (lane one x) (lane other x))) v ≡ map (is_either one other) v
tops one other [] = refl
tops one other (x ∷ v) = ap₂ (λ (t : Bool) ts. t ∷ ts) (both_lanes (eqb x one) (eqb x other))
    (tops one other v)

-- the mask of the lanes that are one of two bytes
pub mask_of_either : (one other : ℕ) (v : List ℕ) (n : ℕ) → length v ≡ n → n ≤ 64
    → mask_l (map (top 7) (zip2 bit_or
    (zip2 (λ a b. cond (eqb a b) 255 0) v (replicate n one))
    (zip2 (λ a b. cond (eqb a b) 255 0) v (replicate n other)))) % 2 ^ 64
    ≡ mask_l (map (is_either one other) v)
mask_of_either one other v n long few =
    let lanes = zip2_of_maps bit_or (lane one) (lane other) v
    (zip2_splat (λ a b. cond (eqb a b) 255 0) v n one long)
    (zip2_splat (λ a b. cond (eqb a b) 255 0) v n other long) in
    ap (λ l. mask_l l % 2 ^ 64) (ap (map (top 7)) lanes
    ∙ map-map (top 7) (λ x. bit_or (lane one x) (lane other x)) v ∙ tops one other v)
    ∙ mask_l-mod (map (is_either one other) v) 64
    (omega (arith, length-map v (is_either one other), long))

-- in front of the first of a load none passes, where none does in front of the load
pub fails_before : (p : ℕ → Bool) (xs : List ℕ) (i n r : ℕ) → i + n ≤ length xs
    → r ≡ position_or_len p (chunk i n xs) → ((k : ℕ) → k < i → p (get_or xs k 0) ≡ false)
    → (k : ℕ) → k < i + r → p (get_or xs k 0) ≡ false
fails_before p xs i n r room run front k lt = elim (cases_lt k i) [
  | inl early ↦ front k early
  | inr late ↦ run_in_chunk_fails p xs i n r 0 room run k late lt
]

-- then the first of the load is the first of all, or all end with the load
pub first_in_load : (p : ℕ → Bool) (xs : List ℕ) (i n r : ℕ) → i + n ≤ length xs
    → r ≡ position_or_len p (chunk i n xs) → ((k : ℕ) → k < i → p (get_or xs k 0) ≡ false)
    → (i + r < length xs → r < n) → i + r ≡ position_or_len p xs
first_in_load p xs i n r room run front short =
    sym (position_or_len_is p xs (i + r) 0
    (let most = run_in_chunk_le p xs i n r 0 room run in omega (arith, most, room))
    (fails_before p xs i n r room run front)
    (λ lt. run_in_chunk_stops p xs i n r 0 room run (short lt)))
