-- The conditions of a split, and the splits that need no search.
use Rattle.std.specs.Prelude.{◌≡◌, ◌⊎◌, ℕ, ◌<◌, ◌≤◌, List, length, map, min, sum, slice_index}
use Rattle.bw_model.specs.declared.limits.TheConstants.{MIN_WEIGHT, MAX_WEIGHT, MAX_CAPACITY}
use Rattle.bw_split.specs.declared.limits.TheConstants.{MAX_CHILDREN}

-- each weight is in its range
abbrev pub AreWeights : List ℕ → Type 0
AreWeights weights =
    (k : ℕ) → k < length weights → (MIN_WEIGHT ≤ slice_index weights k)
    × (slice_index weights k ≤ MAX_WEIGHT)

-- weights and maxima that can be split, and an amount that they can take
pub record CanSplit (amount : ℕ) (weights most : List ℕ) : Type 0 where
  pub one_each : length most ≡ length weights
  pub few : length weights ≤ MAX_CHILDREN
  pub weights_in_range : (k : ℕ) → k < length weights
      → (MIN_WEIGHT ≤ slice_index weights k) × (slice_index weights k ≤ MAX_WEIGHT)
  pub enough : amount ≤ sum most
  pub small : amount ≤ MAX_CAPACITY

-- nothing to split, all that the children can take, or at most two children
abbrev pub NeedsNoSearch : ℕ → List ℕ → List ℕ → Type 0
NeedsNoSearch amount weights most = (amount ≡ 0) ⊎ ((amount ≡ sum most) ⊎ (length weights ≤ 2))

-- the numbers of a list, each cut at a bound
abbrev pub cut_at : ℕ → List ℕ → List ℕ
cut_at bound numbers = map (λ number. min number bound) numbers
