-- The hash of a text by words of four bytes is that of its bytes.
use Rattle.std.proofs.Common.{◌≡◌, ℕ, zero, suc, ◌+◌, ◌*◌, ◌^◌, ◌<◌, ◌≤◌, List, [], ◌∷◌, length}
use Rattle.std.proofs.Common.{Bool, refl, sym, ap, ◌∙◌, drop, slice_index_or, arith, if◌then◌else◌}
use Rattle.std.proofs.lemmas.Bool.{lt-ltb, le-ltb}
use Rattle.std.specs.Int.{w32, from_be_bytes}
use Rattle.std.specs.List.{fold}
use Rattle.std.specs.Simd.{first_chunks}
use Rattle.bw_tree.specs.declared.path_hash.PathHash.{PathHash}
use Rattle.bw_tree.specs.Keys.{value_with, waiting_with, with_byte, with_bytes, with_words}

abbrev hash : ℕ → ℕ → PathHash
hash value waiting = record { value = value; waiting = waiting }

abbrev one_more : ℕ → ℕ → ℕ → ℕ → Bool → PathHash
one_more seed value waiting byte test =
    if test then hash value (waiting_with waiting byte)
    else hash (value_with seed value (waiting_with waiting byte)) 1

-- A byte that does not fill its word waits.
waits : (seed v w b : ℕ) → w < 2 ^ 24 → b < 256
    → with_byte seed (hash v w) b ≡ hash v (w * 256 + b)
unfolding with_byte
waits seed v w b low byte =
    let exact : waiting_with w b ≡ w * 256 + b = omega (arith, low, byte) in
    ap (one_more seed v w b) (lt-ltb w (2 ^ 24) low) ∙ ap (hash v) exact

-- A byte that fills its word makes it a coefficient.
fills : (seed v w b n : ℕ) → 2 ^ 24 ≤ w → waiting_with w b ≡ n
    → with_byte seed (hash v w) b ≡ hash (value_with seed v n) 1
unfolding with_byte
fills seed v w b n high is =
    ap (one_more seed v w b) (le-ltb w (2 ^ 24) high)
    ∙ ap (λ (k : ℕ). hash (value_with seed v k) 1) is

-- Four bytes are one word.
one_word : (seed v a b c d : ℕ) → a < 256 → b < 256 → c < 256 → d < 256
    → with_byte seed (with_byte seed (with_byte seed (with_byte seed (hash v 1) a) b) c) d
    ≡ hash (value_with seed v (from_be_bytes w32 (a ∷ b ∷ c ∷ d ∷ []))) 1
one_word seed v a b c d la lb lc ld =
    let first : with_byte seed (hash v 1) a ≡ hash v (256 + a) = waits seed v 1 a (omega arith) la in
    let second : with_byte seed (hash v (256 + a)) b ≡ hash v ((256 + a) * 256 + b) =
    waits seed v (256 + a) b (omega (arith, la)) lb in
    let third : with_byte seed (hash v ((256 + a) * 256 + b)) c
    ≡ hash v (((256 + a) * 256 + b) * 256 + c) =
    waits seed v ((256 + a) * 256 + b) c (omega (arith, la, lb)) lc in
    let n : ℕ = from_be_bytes w32 (a ∷ b ∷ c ∷ d ∷ []) in
    let is : waiting_with (((256 + a) * 256 + b) * 256 + c) d ≡ n = omega (arith, la, lb, lc, ld) in
    ap (λ h. with_byte seed (with_byte seed (with_byte seed h b) c) d) first
    ∙ ap (λ h. with_byte seed (with_byte seed h c) d) second
    ∙ ap (λ h. with_byte seed h d) third
    ∙ fills seed v (((256 + a) * 256 + b) * 256 + c) d n (omega arith) is

-- Whole words, and the bytes behind them.
pub by_words : (seed v k : ℕ) (xs : List ℕ) → k * 4 ≤ length xs
    → ((i : ℕ) → slice_index_or xs i 0 < 256)
    → with_bytes seed (hash v 1) xs
    ≡ with_bytes seed (hash (with_words seed v (first_chunks 4 k xs)) 1) (drop (k * 4) xs)
unfolding with_bytes with_words
by_words seed v zero xs long bytes = refl
by_words seed v (suc k) [] long bytes = absurd (omega (arith, long))
by_words seed v (suc k) (a ∷ []) long bytes = absurd (omega (arith, long))
by_words seed v (suc k) (a ∷ b ∷ []) long bytes = absurd (omega (arith, long))
by_words seed v (suc k) (a ∷ b ∷ c ∷ []) long bytes = absurd (omega (arith, long))
by_words seed v (suc k) (a ∷ b ∷ c ∷ d ∷ xs) long bytes =
    let word : ℕ = from_be_bytes w32 (a ∷ b ∷ c ∷ d ∷ []) in
    let rest : k * 4 ≤ length xs = omega (arith, long) in
    let four : suc k * 4 ≡ suc (suc (suc (suc (k * 4)))) = omega arith in
    ap (λ h. fold (with_byte seed) h xs)
    (one_word seed v a b c d (bytes 0) (bytes 1) (bytes 2) (bytes 3))
    ∙ by_words seed (value_with seed v word) k xs rest (λ i. bytes (suc (suc (suc (suc i)))))
    ∙ ap (λ n. with_bytes seed
    (hash (with_words seed (value_with seed v word) (first_chunks 4 k xs)) 1)
    (drop n (a ∷ b ∷ c ∷ d ∷ xs))) (sym four)
