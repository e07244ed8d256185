-- The laws of what can be given.
use Rattle.std.specs.Prelude.{◌≡◌, ℕ, ◌<◌, ◌≤◌, List, Some, length, min, slice_index}
use Rattle.std.specs.Option.{option_map_or}
use Rattle.bw_model.specs.Groups.{Groups, IsInstance, parent_of, limit_of}
use Rattle.bw_model.specs.Allocation.{total, IsWithin, IsWithinUnder, IsMost}
use Rattle.bw_model.specs.Certificate.{Certified, AreBounds}
use Rattle.bw_model.specs.Demand.{AreMaxTotals, want_of}

-- some allocation that keeps the demands and the limits at g and below it gives this amount to g
abbrev pub IsReached : Groups → ℕ → ℕ → Type 0
IsReached groups g amount = (allocation : List ℕ) × IsWithinUnder groups g allocation
    × (total groups.rows allocation g ≡ amount)

-- one allocation gives each child of g what the child's own part gives it, and keeps the demands
-- and the limits there
pub record IsJoined (groups : Groups) (g : ℕ) (parts : ℕ → List ℕ) : Type 0 where
  pub allocation : List ℕ
  pub within : (c : ℕ) → c < length groups.rows → parent_of groups.rows c ≡ Some g
      → IsWithinUnder groups c allocation
  pub totals : (c : ℕ) → c < length groups.rows → parent_of groups.rows c ≡ Some g →
      total groups.rows allocation c ≡ total groups.rows (parts c) c

-- every amount up to the most of a group is reached
abbrev pub AmountsAreReached : Type 0
AmountsAreReached = (groups : Groups) (g most amount : ℕ) → IsInstance groups
    → g < length groups.rows → IsMost groups g most →
    amount ≤ most → IsReached groups g amount

-- there is one most of each group
abbrev pub MostIsUnique : Type 0
MostIsUnique = (groups : Groups) (g one two : ℕ) → IsMost groups g one → IsMost groups g two
    → one ≡ two

-- the most of each group is its want, cut at its limit
abbrev pub MostIsTheWantCut : Type 0
MostIsTheWantCut = (groups : Groups) (most : List ℕ) → IsInstance groups → AreMaxTotals groups most
    → (g : ℕ) → g < length groups.rows →
    slice_index most g ≡ option_map_or (min (want_of groups most g)) (limit_of groups g)
    (want_of groups most g)

-- allocations of the children of a group join into one
abbrev pub AllocationsJoin : Type 0
AllocationsJoin = (groups : Groups) (g : ℕ) (parts : ℕ → List ℕ) → IsInstance groups →
    ((c : ℕ) → c < length groups.rows → parent_of groups.rows c ≡ Some g
    → IsWithinUnder groups c (parts c)) → IsJoined groups g parts

-- whichever groups are flagged, no allocation within has a total above the bound
abbrev pub BoundsHold : Type 0
BoundsHold = (groups : Groups) (certificate : Certified) (bounds allocation : List ℕ)
    → IsInstance groups →
    AreBounds groups certificate bounds → IsWithin groups allocation →
    (g : ℕ) → g < length groups.rows → total groups.rows allocation g ≤ slice_index bounds g
