-- Needs of siblings from one amount, and the weights that meet them.
use Rattle.std.specs.Prelude.{◌≡◌, ◌⊎◌, ℕ, ◌-◌, ◌*◌, ◌<◌, ◌≤◌, List, Option, None, Some, length}
use Rattle.std.specs.Prelude.{slice_index, sum, Vec}
use Rattle.std.specs.declared.alloc.Global.{Global}
use Rattle.bw_model.specs.declared.limits.TheConstants.{MAX_WEIGHT}
use Rattle.bw_model.specs.Split.{IsBestSplit}
use Rattle.bw_split.specs.Levels.{taken}
use Rattle.bw_split.specs.declared.limits.TheConstants.{STEPS, GREATEST_LEVEL}
use Rattle.bw_questions.specs.declared.from_root.meeting.Meeting.{Meeting}

-- Floors, tops and needs, one of each for each sibling: no floor is above its top, no top above the
-- greatest weight, and no need above what the sibling can be given.
pub record AreWithin (floors tops most needs : List ℕ) : Type 0 where
  pub tops_each : length tops ≡ length floors
  pub needs_each : length needs ≡ length floors
  pub rising : (k : ℕ) → k < length floors → slice_index floors k ≤ slice_index tops k
  pub greatest : (k : ℕ) → k < length floors → slice_index tops k ≤ MAX_WEIGHT
  pub enough : (k : ℕ) → k < length floors → slice_index needs k ≤ slice_index most k

-- weights from the floors to the tops
pub record AreBetween (floors tops weights : List ℕ) : Type 0 where
  pub one_each : length weights ≡ length floors
  pub no_less : (k : ℕ) → k < length floors → slice_index floors k ≤ slice_index weights k
  pub no_more : (k : ℕ) → k < length floors → slice_index weights k ≤ slice_index tops k

-- Weights from the floors to the tops, and the best split of an amount with them, in which each
-- sibling has what it needs.
pub record MeetsNeeds (floors tops most needs : List ℕ) (amount : ℕ) (weights parts : List ℕ)
    : Type 0 where
  pub between : AreBetween floors tops weights
  pub split : IsBestSplit amount weights most parts
  pub met : (k : ℕ) → k < length parts → slice_index needs k ≤ slice_index parts k

-- some weights give each sibling what it needs of an amount
abbrev pub CanMeet : List ℕ → List ℕ → List ℕ → List ℕ → ℕ → Type 0
CanMeet floors tops most needs amount =
    (weights parts : List ℕ) × MeetsNeeds floors tops most needs amount weights parts

-- At a level of cost the children take or need more than an amount: all parts that hold what they
-- need, and all slices that cost no more than the level, come to more.
abbrev pub TakeMore : ℕ → ℕ → List ℕ → List ℕ → List ℕ → Type 0
TakeMore amount level weights most needs = (parts : List ℕ) → length parts ≡ length weights
    → ((k : ℕ) → k < length weights → slice_index needs k ≤ slice_index parts k)
    → ((k : ℕ) → k < length weights
    → taken level (slice_index weights k) (slice_index most k) ≤ slice_index parts k)
    → amount < sum parts

-- a level at which the children take or need more than an amount, or the greatest one
pub record IsLevelOfNeeds (amount : ℕ) (weights most needs : List ℕ) (level : ℕ) : Type 0 where
  pub some : 1 ≤ level
  pub in_range : level ≤ GREATEST_LEVEL
  pub more : (level ≡ GREATEST_LEVEL) ⊎ TakeMore amount level weights most needs

-- a weight that is no less than the one that stands, greater where the child falls short, and with
-- which the last slice that the child needs costs no more than a level
pub record IsHeavyEnough (level weight part need other : ℕ) : Type 0 where
  pub no_less : weight ≤ other
  pub more : part < need → weight < other
  pub cheap : (2 * need - 1) * STEPS ≤ level * other

-- the least such weights, or None where one of them is above its top
abbrev pub AreRaised : ℕ → List ℕ → List ℕ → List ℕ → List ℕ → Option (Vec ℕ Global) → Type 0
AreRaised level weights tops parts needs None = (k : ℕ) × (k < length weights)
    × ((other : ℕ) → IsHeavyEnough level (slice_index weights k) (slice_index parts k)
    (slice_index needs k) other → slice_index tops k < other)
AreRaised level weights tops parts needs (Some raised) = (length raised.items ≡ length weights)
    × ((k : ℕ) → k < length weights → (slice_index raised.items k ≤ slice_index tops k)
    × IsHeavyEnough level (slice_index weights k) (slice_index parts k) (slice_index needs k)
    (slice_index raised.items k)
    × ((other : ℕ) → IsHeavyEnough level (slice_index weights k) (slice_index parts k)
    (slice_index needs k) other → slice_index raised.items k ≤ other))

-- the least weights that give each sibling what it needs of an amount, or None where none do, of
-- this amount or of a smaller one
abbrev pub IsLeastMeeting : List ℕ → List ℕ → List ℕ → List ℕ → ℕ → Option Meeting → Type 0
IsLeastMeeting floors tops most needs amount None =
    (less : ℕ) → less ≤ amount → CanMeet floors tops most needs less → ⊥
IsLeastMeeting floors tops most needs amount (Some meeting) =
    MeetsNeeds floors tops most needs amount meeting.weights.items meeting.parts.items
    × ((less : ℕ) (weights parts : List ℕ) → less ≤ amount
    → MeetsNeeds floors tops most needs less weights parts
    → (k : ℕ) → k < length floors
    → slice_index meeting.weights.items k ≤ slice_index weights k)

-- the least amount from one to another of which some weights give each sibling what it needs, or
-- None where there is none
abbrev pub IsLeastAmount : List ℕ → List ℕ → List ℕ → List ℕ → ℕ → ℕ → Option ℕ → Type 0
IsLeastAmount floors tops most needs first limit None =
    (less : ℕ) → first ≤ less → less ≤ limit → CanMeet floors tops most needs less → ⊥
IsLeastAmount floors tops most needs first limit (Some amount) =
    (first ≤ amount) × (amount ≤ limit) × CanMeet floors tops most needs amount
    × ((less : ℕ) → first ≤ less → less < amount → CanMeet floors tops most needs less → ⊥)
