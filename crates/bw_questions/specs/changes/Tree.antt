-- Two lists of rows of one tree.
use Rattle.std.specs.Prelude.{◌≡◌, ℕ, List, true, length}
use Rattle.bw_model.specs.declared.row.Row.{Row}
use Rattle.bw_model.specs.Groups.{parent_of, is_under}

-- as many rows, with the same parents
pub record IsSameTree (rows others : List Row) : Type 0 where
  pub as_many : length others ≡ length rows
  pub parents : (g : ℕ) → parent_of others g ≡ parent_of rows g

-- the group itself, or a group that is not under it
abbrev pub IsNotBelow : List Row → ℕ → ℕ → Type 0
IsNotBelow rows group h = is_under rows group h ≡ true → h ≡ group
