-- Laws of raised weights.
use Rattle.std.specs.Prelude.{◌≡◌, ◌≢◌, ℕ, ◌<◌, ◌≤◌, List, true, Some, length, slice_index}
use Rattle.bw_model.specs.Groups.{Groups, IsInstance, parent_of, weight_of, demand_of, limit_of}
use Rattle.bw_model.specs.Groups.{is_under}
use Rattle.bw_model.specs.Plan.{IsPlan}
use Rattle.bw_questions.specs.changes.Tree.{IsSameTree, IsNotBelow}

-- Two instances with equal demands and limits, of which one group has a greater weight.
pub record IsHeavier (groups heavier : Groups) (group : ℕ) : Type 0 where
  pub tree : IsSameTree groups.rows heavier.rows
  pub demands : (h : ℕ) → demand_of heavier.rows h ≡ demand_of groups.rows h
  pub limits : (h : ℕ) → limit_of heavier h ≡ limit_of groups h
  pub weights : (h : ℕ) → h ≢ group → weight_of heavier.rows h ≡ weight_of groups.rows h
  pub raised : weight_of groups.rows group ≤ weight_of heavier.rows group

-- The amounts of the heavier group, of its siblings, and of all that is not below their parent.
pub record IsGainAlone (groups : Groups) (group parent : ℕ) (amounts others : List ℕ) : Type 0 where
  pub gains : slice_index amounts group ≤ slice_index others group
  pub siblings : (s : ℕ) → s < length groups.rows → parent_of groups.rows s ≡ Some parent
      → s ≢ group → slice_index others s ≤ slice_index amounts s
  pub elsewhere : (h : ℕ) → h < length groups.rows → IsNotBelow groups.rows parent h
      → slice_index others h ≡ slice_index amounts h

-- A heavier group alone gains, and what is not below its parent keeps its amounts.
abbrev pub RaisedWeightAloneGains : Type 0
RaisedWeightAloneGains = (groups heavier : Groups) (group parent : ℕ) (amounts others : List ℕ)
    → IsInstance groups → IsInstance heavier → IsHeavier groups heavier group
    → group < length groups.rows → parent_of groups.rows group ≡ Some parent
    → IsPlan groups amounts → IsPlan heavier others
    → IsGainAlone groups group parent amounts others

-- Two instances with equal demands and limits and no smaller weights, of which those of a group and
-- of the groups above it are equal.
pub record IsHeavierAround (groups heavier : Groups) (group : ℕ) : Type 0 where
  pub tree : IsSameTree groups.rows heavier.rows
  pub demands : (h : ℕ) → demand_of heavier.rows h ≡ demand_of groups.rows h
  pub limits : (h : ℕ) → limit_of heavier h ≡ limit_of groups h
  pub weights : (h : ℕ) → weight_of groups.rows h ≤ weight_of heavier.rows h
  pub above : (h : ℕ) → is_under groups.rows h group ≡ true
      → weight_of heavier.rows h ≡ weight_of groups.rows h

-- The heavier the others are, the less a group has.
abbrev pub OthersWeightsGiveNothing : Type 0
OthersWeightsGiveNothing = (groups heavier : Groups) (group : ℕ) (amounts others : List ℕ)
    → IsInstance groups → IsInstance heavier → IsHeavierAround groups heavier group
    → group < length groups.rows → IsPlan groups amounts → IsPlan heavier others
    → slice_index others group ≤ slice_index amounts group
