-- Sets of places.
use Rattle.std.proofs.Common.{◌∙◌, ℕ, ◌+◌, ◌*◌, ◌^◌, ◌%◌, ◌<◌, arith, bit_or, w64}
use Rattle.std.proofs.lemmas.Nat.Bits.{bit_at_set_same, bit_at_set_other}
use Rattle.bw_lend.specs.Bells.{IsIn, IsWith, AreIn}
use Rattle.bw_lend.proofs.Lists.{here_or_else}

-- a set with one more place has it and those before
pub set_with : (n k : ℕ) → k < 64 → IsWith n k (bit_or n (1 * 2 ^ k % 18446744073709551616))
set_with n k within = (
  bit_at_set_same w64 n k within,
  here_or_else (λ i. IsIn n i → IsIn (bit_or n (1 * 2 ^ k % 18446744073709551616)) i) k
      (λ _. bit_at_set_same w64 n k within)
      (λ i apart old. bit_at_set_other w64 n k within i apart ∙ old),
)

-- the wake of this place
pub woken_more : (set n f g : ℕ) → IsWith f n g → AreIn set n f → AreIn set (n + 1) g
woken_more set n f g more woken = here_or_else
    (λ k. k < n + 1 → IsIn set k → IsIn g k) n
    (λ _ _. more.0)
    (λ k apart below is. more.1 k (woken k (omega (arith, apart, below)) is))

-- a place that is not in the set needs no wake
pub woken_none : (set n f : ℕ) → (IsIn set n → ⊥) → AreIn set n f → AreIn set (n + 1) f
woken_none set n f none woken = here_or_else (λ k. k < n + 1 → IsIn set k → IsIn f k) n
    (λ _ is. absurd (none is))
    (λ k apart below is. woken k (omega (arith, apart, below)) is)
