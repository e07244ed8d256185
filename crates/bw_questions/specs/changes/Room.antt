-- Laws of a group that may have more, and of a group beside which others ask for more.
use Rattle.std.specs.Prelude.{◌≡◌, ◌≢◌, ℕ, ◌<◌, ◌≤◌, List, true, Some, length, slice_index}
use Rattle.bw_model.specs.Groups.{Groups, IsInstance, parent_of, weight_of, demand_of, limit_of}
use Rattle.bw_model.specs.Groups.{is_under}
use Rattle.bw_model.specs.Plan.{IsPlan}
use Rattle.bw_questions.specs.changes.Tree.{IsSameTree}
use Rattle.bw_questions.specs.changes.Host.{IsRoomier}

-- A roomier instance that differs at one group alone: equal weights, and equal demands and limits
-- of the other groups.
pub record IsRoomierAt (groups roomier : Groups) (group : ℕ) : Type 0 where
  pub no_less : IsRoomier groups roomier
  pub weights : (h : ℕ) → weight_of roomier.rows h ≡ weight_of groups.rows h
  pub demands : (h : ℕ) → h ≢ group → demand_of roomier.rows h ≡ demand_of groups.rows h
  pub limits : (h : ℕ) → h ≢ group → limit_of roomier h ≡ limit_of groups h

-- The amounts of the group, of those above it, and of its siblings where their parent has no more.
pub record IsRoomTaken (groups : Groups) (group : ℕ) (amounts others : List ℕ) : Type 0 where
  pub gains : slice_index amounts group ≤ slice_index others group
  pub above : (h : ℕ) → is_under groups.rows h group ≡ true
      → slice_index amounts h ≤ slice_index others h
  pub siblings : (parent s : ℕ) → parent_of groups.rows group ≡ Some parent
      → s < length groups.rows → parent_of groups.rows s ≡ Some parent → s ≢ group
      → slice_index others parent ≤ slice_index amounts parent
      → slice_index others s ≤ slice_index amounts s

-- A group of a greater limit or a greater demand has no less, and neither has a group above it. No
-- sibling has more, unless their parent has.
abbrev pub MoreRoomTakesNothing : Type 0
MoreRoomTakesNothing = (groups roomier : Groups) (group : ℕ) (amounts others : List ℕ)
    → IsInstance groups → IsInstance roomier → IsRoomierAt groups roomier group
    → group < length groups.rows → IsPlan groups amounts → IsPlan roomier others
    → IsRoomTaken groups group amounts others

-- An instance with equal weights and limits and no smaller demands, of which those of a group and
-- below it are equal.
pub record IsBusierAround (groups busier : Groups) (group : ℕ) : Type 0 where
  pub tree : IsSameTree groups.rows busier.rows
  pub weights : (h : ℕ) → weight_of busier.rows h ≡ weight_of groups.rows h
  pub limits : (h : ℕ) → limit_of busier h ≡ limit_of groups h
  pub demands : (h : ℕ) → demand_of groups.rows h ≤ demand_of busier.rows h
  pub inside : (h : ℕ) → is_under groups.rows group h ≡ true
      → demand_of busier.rows h ≡ demand_of groups.rows h

-- The more the others ask for, the less a group has.
abbrev pub OthersDemandsGiveNothing : Type 0
OthersDemandsGiveNothing = (groups busier : Groups) (group : ℕ) (amounts others : List ℕ)
    → IsInstance groups → IsInstance busier → IsBusierAround groups busier group
    → group < length groups.rows → IsPlan groups amounts → IsPlan busier others
    → slice_index others group ≤ slice_index amounts group

-- An instance with equal weights, no smaller demands and no lower limits. The limits of a group,
-- and of all above it and below it, are equal, and so are the demands below it.
pub record IsRoomierAround (groups roomier : Groups) (group : ℕ) : Type 0 where
  pub no_less : IsRoomier groups roomier
  pub weights : (h : ℕ) → weight_of roomier.rows h ≡ weight_of groups.rows h
  pub above : (h : ℕ) → is_under groups.rows h group ≡ true
      → limit_of roomier h ≡ limit_of groups h
  pub limits : (h : ℕ) → is_under groups.rows group h ≡ true
      → limit_of roomier h ≡ limit_of groups h
  pub demands : (h : ℕ) → is_under groups.rows group h ≡ true
      → demand_of roomier.rows h ≡ demand_of groups.rows h

-- The more the others may have, the less a group has.
abbrev pub OthersRoomGivesNothing : Type 0
OthersRoomGivesNothing = (groups roomier : Groups) (group : ℕ) (amounts others : List ℕ)
    → IsInstance groups → IsInstance roomier → IsRoomierAround groups roomier group
    → group < length groups.rows → IsPlan groups amounts → IsPlan roomier others
    → slice_index others group ≤ slice_index amounts group
