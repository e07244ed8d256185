-- Tables that are gathered row by row.
use Rattle.std.specs.Prelude.{◌≡◌, ℕ, ◌<◌, List, Some, None, length, sum_by, slice_index, unwrap_or}
use Rattle.std.specs.Prelude.{cond, nat_lt, if◌then◌else◌}
use Rattle.std.specs.List.{range_with_len}
use Rattle.bw_model.specs.declared.row.Row.{Row}
use Rattle.bw_model.specs.Groups.{Groups, parent_of, is_child, is_leaf, demand_of, limit_of}
use Rattle.bw_model.specs.Certificate.{Certified, is_flagged, sibling_place}

-- the sum of f over those of the first n groups that are children of g
abbrev pub sum_of_first : List Row → (ℕ → ℕ) → ℕ → ℕ → ℕ
sum_of_first rows f n g = sum_by (λ c. cond (is_child rows g c) (f c) 0) (range_with_len 0 n)

-- a table with that sum for each group
pub record AreGathered (rows : List Row) (f : ℕ → ℕ) (n : ℕ) (table : List ℕ) : Type 0 where
  pub one_each : length table ≡ length rows
  pub each : (g : ℕ) → g < length rows → slice_index table g ≡ sum_of_first rows f n g

-- a table with the places of the first n groups among their siblings
pub record ArePlaces (rows : List Row) (n : ℕ) (places : List ℕ) : Type 0 where
  pub one_each : length places ≡ length rows
  pub each : (c g : ℕ) → c < n → parent_of rows c ≡ Some g
      → slice_index places c ≡ sibling_place rows g c

-- the bound of a group whose children's bounds have this sum
abbrev pub bound_over : Groups → Certified → ℕ → ℕ → ℕ
bound_over groups certificate below g =
    unwrap_or (if is_flagged certificate g then limit_of groups g else None)
    (if is_leaf groups.rows g then demand_of groups.rows g else below)

-- f, but 0 before row k
abbrev pub from_row : ℕ → (ℕ → ℕ) → ℕ → ℕ
from_row k f c = cond (nat_lt c k) 0 (f c)
