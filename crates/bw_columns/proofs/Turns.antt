-- One more turn of a loop that makes a list by number.
use Rattle.std.proofs.Common.{◌≡◌, ℕ, ◌+◌, ◌++◌, ◌∷◌, [], map, arith}
use Rattle.std.specs.List.{range_with_len}
use Rattle.std.proofs.lemmas.List.FromFn.{map-range_with_len_more}

-- the values of the numbers below n + 1 are those below n and that of n
pub map_more : {X : Type 0} (f : ℕ → X) (n : ℕ)
    → map f (range_with_len 0 (n + 1)) ≡ map f (range_with_len 0 n) ++ f n ∷ []
map_more f n = map-range_with_len_more f 0 n n (omega arith)
