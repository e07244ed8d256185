-- What a list of wake words has after one of them is read or written.
use Rattle.std.proofs.Common.{◌≡◌, ◌≢◌, ℕ, zero, suc, ◌<◌, List, [], ◌∷◌, length, set, refl, ap}
use Rattle.std.proofs.Common.{arith, slice_index}

pub same_words : (ws : List ℕ) (i : ℕ) → set ws i (slice_index ws i) ≡ ws
same_words [] i = refl
same_words (x ∷ xs) zero = refl
same_words (x ∷ xs) (suc i) = ap (λ l. x ∷ l) (same_words xs i)

pub index_here : (ws : List ℕ) (i v : ℕ) → i < length ws → slice_index (set ws i v) i ≡ v
index_here [] i v h = absurd (omega arith)
index_here (x ∷ xs) zero v h = refl
index_here (x ∷ xs) (suc i) v h = index_here xs i v (omega arith)

pub index_else : (ws : List ℕ) (i j v : ℕ) → j ≢ i → slice_index (set ws i v) j ≡ slice_index ws j
index_else [] i j v ne = refl
index_else (x ∷ xs) zero zero v ne = absurd (ne refl)
index_else (x ∷ xs) zero (suc j) v ne = refl
index_else (x ∷ xs) (suc i) zero v ne = refl
index_else (x ∷ xs) (suc i) (suc j) v ne = index_else xs i j v (λ e. ne (ap suc e))
