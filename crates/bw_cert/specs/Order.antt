-- The order in which the rows of an instance stand, row by row.
use Rattle.std.specs.Prelude.{◌≡◌, ℕ, ◌+◌, ◌<◌, ◌≤◌, List, Option, Some, None, length, slice_index}
use Rattle.bw_model.specs.declared.row.Row.{Row}
use Rattle.bw_model.specs.declared.limits.TheConstants.{MIN_WEIGHT, MAX_WEIGHT, MAX_DEMAND}
use Rattle.bw_model.specs.declared.limits.TheConstants.{MAX_DEPTH}
use Rattle.bw_model.specs.Groups.{row_of, demand_of}

-- the weight and the demand of a row are within their limits
abbrev pub IsInRange : Row → Type 0
IsInRange row = (MIN_WEIGHT ≤ row.weight) × (row.weight ≤ MAX_WEIGHT) × (row.demand ≤ MAX_DEMAND)

-- only row 0 has no parent. Another's stands before it and has no demand, and neither is too deep
abbrev pub IsPlaced : List Row → List ℕ → ℕ → Option ℕ → ℕ → Type 0
IsPlaced rows depths g None depth = (g ≡ 0) × (depth ≡ 0)
IsPlaced rows depths g (Some p) depth =
    (p < g) × (demand_of rows p ≡ 0) × (depth ≡ slice_index depths p + 1) × (depth ≤ MAX_DEPTH)

-- a row is in order, by the depths of the rows before it
pub record IsInOrder (rows : List Row) (depths : List ℕ) (g depth : ℕ) : Type 0 where
  pub in_range : IsInRange (row_of rows g)
  pub placed : IsPlaced rows depths g (row_of rows g).parent depth
  pub unlimited : g ≡ 0 → (row_of rows g).limit ≡ None

-- each row is in order, by some depths
pub record AreInOrder (rows : List Row) : Type 0 where
  pub depths : List ℕ
  pub each : (g : ℕ) → g < length rows → IsInOrder rows depths g (slice_index depths g)
