-- Wakes that are owed to the owners of places, and wakes that are made.
use Rattle.std.specs.Prelude.{ℕ, ◌≡◌, ◌<◌}
use Rattle.std.specs.Int.{bit_at}

-- the place is in the set
abbrev pub IsIn : ℕ → ℕ → Type 0
IsIn set k = bit_at set k ≡ 1

-- the set with this place
abbrev pub IsWith : ℕ → ℕ → ℕ → Type 0
IsWith old place new = IsIn new place × ((k : ℕ) → IsIn old k → IsIn new k)

-- each place of the first set below n is in the second
abbrev pub AreIn : ℕ → ℕ → ℕ → Type 0
AreIn set n woken = (k : ℕ) → k < n → IsIn set k → IsIn woken k
