-- Rounds of a loop that holds a plan: what each leaf asks for, and what it was not served.
use Rattle.std.specs.Prelude.{◌≡◌, ℕ, ◌-◌, ◌<◌, ◌==◌, List, Bool, length, nat_le, slice_index}
use Rattle.std.specs.Prelude.{if◌then◌else◌}
use Rattle.bw_model.specs.declared.limits.TheConstants.{MAX_DEMAND}

-- whether a reading asks for everything: for the greatest demand
abbrev pub asks_for_all : ℕ → Bool
asks_for_all asked = nat_le MAX_DEMAND asked

-- the flag of a leaf in a round: 1 where its reading asks for everything
abbrev pub all_flag : ℕ → ℕ
all_flag asked = if asks_for_all asked then 1 else 0

-- The slices of a leaf in a round: what it used where it asks for everything, else what it asks
-- for.
abbrev pub asked_column : ℕ → ℕ → ℕ
asked_column used asked = if asks_for_all asked then used else asked

-- The slices of its plan that a leaf was not served. One that would not have used more lacks none.
abbrev pub unserved : ℕ → ℕ → ℕ → ℕ
unserved planned used hungry = if hungry == 0 then 0 else planned - used

-- slices that a round asks for each leaf, and those that each was not served, from readings
pub record AreRoundColumns (planned used asked hungry column all lacks : List ℕ) : Type 0 where
  pub column_is : (k : ℕ) → k < length used → slice_index column k
      ≡ asked_column (slice_index used k) (slice_index asked k)
  pub all_is : (k : ℕ) → k < length used → slice_index all k ≡ all_flag (slice_index asked k)
  pub lacks_are : (k : ℕ) → k < length used → slice_index lacks k
      ≡ unserved (slice_index planned k) (slice_index used k) (slice_index hungry k)
