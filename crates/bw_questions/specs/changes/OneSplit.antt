-- Laws of a changed amount, of a child's changed weight or maximum, and of a child taken away.
use Rattle.std.specs.Prelude.{◌≡◌, ◌≢◌, ℕ, ◌+◌, ◌-◌, ◌<◌, ◌≤◌, List, length, remove, slice_index}
use Rattle.std.specs.Prelude.{slice_set}
use Rattle.bw_model.specs.Split.{IsBestSplit}

-- Weights of siblings, one for each maximum, and each above 0.
pub record AreWeighted (weights most : List ℕ) : Type 0 where
  pub one_each : length weights ≡ length most
  pub positive : (k : ℕ) → k < length weights → 0 < slice_index weights k

-- Siblings as before, but for one child whose weight or maximum may be greater.
pub record IsRaised (weights most more_weights more_most : List ℕ) (child : ℕ) : Type 0 where
  pub as_many : length more_most ≡ length most
  pub weight : slice_index weights child ≤ slice_index more_weights child
  pub maximum : slice_index most child ≤ slice_index more_most child
  pub others : (k : ℕ) → k ≢ child → (slice_index more_weights k ≡ slice_index weights k)
      × (slice_index more_most k ≡ slice_index most k)

-- One slice more to split is one slice more of exactly one child.
abbrev pub MoreTakesFromNobody : Type 0
MoreTakesFromNobody = (amount : ℕ) (weights most parts more : List ℕ) → AreWeighted weights most
    → IsBestSplit amount weights most parts → IsBestSplit (amount + 1) weights most more
    → (k : ℕ) × (k < length parts) × (more ≡ slice_set parts k (slice_index parts k + 1))

-- A raised child loses nothing, and no other child gains.
abbrev pub RaisedChildAloneGains : Type 0
RaisedChildAloneGains = (amount : ℕ) (weights most more_weights more_most parts others : List ℕ)
    (child : ℕ) → AreWeighted weights most → AreWeighted more_weights more_most
    → IsRaised weights most more_weights more_most child
    → IsBestSplit amount weights most parts → IsBestSplit amount more_weights more_most others
    → (slice_index parts child ≤ slice_index others child)
    × ((k : ℕ) → k ≢ child → slice_index others k ≤ slice_index parts k)

-- Without one child and its part, the parts of the others are the best split of the rest.
abbrev pub RestStaysSplit : Type 0
RestStaysSplit = (amount : ℕ) (weights most parts : List ℕ) (child : ℕ) → AreWeighted weights most
    → child < length parts → IsBestSplit amount weights most parts
    → IsBestSplit (amount - slice_index parts child) (remove weights child) (remove most child)
    (remove parts child)

-- Beside no lighter siblings, and with no more to split, a child of no greater weight that could
-- take more has no more.
abbrev pub LighterHasNoMore : Type 0
LighterHasNoMore = (amount less : ℕ) (weights most other_weights parts others : List ℕ) (child : ℕ)
    → less ≤ amount → AreWeighted weights most → AreWeighted other_weights most
    → slice_index other_weights child ≤ slice_index weights child
    → ((k : ℕ) → k ≢ child → slice_index weights k ≤ slice_index other_weights k)
    → IsBestSplit amount weights most parts → IsBestSplit less other_weights most others
    → slice_index parts child < slice_index most child
    → slice_index others child ≤ slice_index parts child
