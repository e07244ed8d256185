-- The laws of the plan's definitions: best splits, the order of marks, and the bounds of a
-- certificate.
use Rattle.std.specs.Prelude.{◌≡◌, ℕ, ◌<◌, ◌≤◌, ◌↔◌, true, List, length, slice_index}
use Rattle.std.specs.Ordering.{is_lt, is_le}
use Rattle.bw_model.specs.declared.mark.Mark.{Mark}
use Rattle.bw_model.specs.Certificate.{Certified, AreBounds}
use Rattle.bw_model.specs.Demand.{AreMaxTotals}
use Rattle.bw_model.specs.Groups.{Groups, IsInstance}
use Rattle.bw_model.specs.MarkOrder.{mark_cmp}
use Rattle.bw_model.specs.Marks.{MarkValue, price_of, IsBelow, IsAtMost}
use Rattle.bw_model.specs.Split.{IsSplit, IsAtLevel, IsBestSplit}

-- a split at a level is the best split of its sum
abbrev pub LevelShowsBest : Type 0
LevelShowsBest = (level : MarkValue) (weights most parts : List ℕ) (amount : ℕ)
    → 0 < level.den → length weights ≡ length parts
    → ((k : ℕ) → k < length parts → 0 < slice_index weights k)
    → IsAtLevel level weights most parts → IsSplit amount most parts
    → IsBestSplit amount weights most parts

-- there is at most one best split
abbrev pub BestSplitIsOne : Type 0
BestSplitIsOne = (amount : ℕ) (weights most parts others : List ℕ)
    → IsBestSplit amount weights most parts → IsBestSplit amount weights most others
    → parts ≡ others

-- the code compares marks in the order of the definitions
pub record MarksAgree : Type 0 where
  pub below : (m n : Mark) → (is_lt (mark_cmp m n) ≡ true) ↔ IsBelow (price_of m) (price_of n)
  pub at_most : (m n : Mark) → (is_le (mark_cmp m n) ≡ true) ↔ IsAtMost (price_of m) (price_of n)

-- Whichever groups a certificate flags, no group's greatest total is above its bound.
abbrev pub BoundsCoverMosts : Type 0
BoundsCoverMosts = (groups : Groups) (certificate : Certified) (bounds most : List ℕ)
    → IsInstance groups → AreBounds groups certificate bounds → AreMaxTotals groups most
    → (g : ℕ) → g < length groups.rows → slice_index most g ≤ slice_index bounds g
