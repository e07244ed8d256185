-- The first newline among the bytes of one load.
use Rattle.std.proofs.Common.{◌≡◌, ℕ, ◌≤◌, ◌<◌, ◌^◌, Bool, true, false, Some}
use Rattle.std.proofs.Common.{zero-add, List, map, length, take, get_or, sym, ◌∙◌, arith}
use Rattle.std.proofs.Common.{inl, inr, subst}
use Rattle.std.proofs.Math.ListN.{get_or-eq_default}
use Rattle.std.proofs.lemmas.Bool.{cases_lt, false≢true}
use Rattle.std.proofs.lemmas.List.{length-map, length-take}
use Rattle.std.proofs.lemmas.Nat.Bits.{bit_at-trailing_zeros}
use Rattle.std.proofs.lemmas.Simd.{bit_mask_l, mask_l-lt, trailing_mask_l, run_in_chunk_fails}
use Rattle.std.proofs.lemmas.Simd.{run_in_chunk_stops}
use Rattle.std.specs.Int.{w64, trailing_zeros}
use Rattle.std.specs.Simd.Lanes.{mask_l}
use Rattle.memchr.specs.Find.{IsFirstByte}
use Rattle.bw_model.proofs.CallerLemmas.{cond_one}

-- the lowest bit of the mask of the first 32 bytes is the first byte that passes
pub first_of_mask : (p : ℕ → Bool) (xs : List ℕ) → 32 ≤ length xs
    → 0 < mask_l (map p (take 32 xs))
    → IsFirstByte p xs (Some (trailing_zeros w64 (mask_l (map p (take 32 xs)))))
first_of_mask p xs room some =
    let front = take 32 xs in
    let bs = map p front in
    let m = mask_l bs in
    let at = trailing_zeros w64 m in
    let long : length bs ≡ 32 = omega (arith, length-map front p, length-take 32 xs) in
    let small : m < 2 ^ 32 = subst (λ n. m < 2 ^ n) long (mask_l-lt bs) in
    let low = bit_at-trailing_zeros w64 m some (omega (arith, small)) in
    let set : get_or bs at false ≡ true =
    cond_one (get_or bs at false) (sym (bit_mask_l bs at) ∙ low.1) in
    let within : at < 32 = elim (cases_lt at 32) [
      | inl lt ↦ lt
      | inr past ↦ absurd (false≢true (sym (get_or-eq_default bs false (omega (arith, long, past)))
          ∙ set))
    ] in
    let counted = trailing_mask_l p 64 front (omega (arith, length-take 32 xs)) some in (
      record {
        low = omega arith;
        high = omega (arith, within, room);
        before = λ k from lt pass. false≢true (sym (run_in_chunk_fails p xs 0 32 at 0 room counted k
            from (omega (arith, lt))) ∙ pass);
      },
      subst (λ k. p (get_or xs k 0) ≡ true) (zero-add at)
          (run_in_chunk_stops p xs 0 32 at 0 room counted within),
    )
