-- The laws of the reasons.
use Rattle.std.specs.Prelude.{◌≡◌, ℕ, ◌+◌, ◌<◌, ◌≤◌, ◌⊎◌, List, Some, length, slice_index}
use Rattle.bw_model.specs.Groups.{Groups, IsInstance, weight_of, limit_of}
use Rattle.bw_model.specs.Plan.{IsPlan}
use Rattle.bw_demand.specs.Demands.{Demands, IsGathered}
use Rattle.bw_questions.specs.changes.Host.{IsRoomier}
use Rattle.bw_questions.specs.changes.Room.{IsRoomierAt}
use Rattle.bw_questions.specs.declared.why.reason.Reason.{Reason}
use Rattle.bw_questions.specs.Reasons.{IsBlamed, HasReason}

-- one reason of a group, and no other
pub record HasOneReason (groups : Groups) (demands : Demands) (amounts : List ℕ) (g : ℕ) : Type 0
  where
    pub reason : Reason
    pub holds : HasReason groups demands amounts g reason
    pub alone : (other : Reason) → HasReason groups demands amounts g other → other ≡ reason

-- the reasons are complete, and exclude each other
abbrev pub ThereIsOneReason : Type 0
ThereIsOneReason = (groups : Groups) (demands : Demands) (amounts : List ℕ) → IsInstance groups
    → IsGathered groups demands → IsPlan groups amounts
    → (g : ℕ) → g < length groups.rows → HasOneReason groups demands amounts g

-- The group to blame for a group that gets less than it wants: it gets its limit, and wants more.
abbrev pub BlamedHasItsLimit : Type 0
BlamedHasItsLimit = (groups : Groups) (demands : Demands) (amounts : List ℕ) → IsInstance groups
    → IsGathered groups demands → IsPlan groups amounts
    → (g blamed : ℕ) → g < length groups.rows
    → slice_index amounts g < slice_index demands.want g
    → IsBlamed groups demands.most amounts g blamed
    → (limit_of groups blamed ≡ Some (slice_index amounts blamed))
    × (slice_index amounts blamed < slice_index demands.want blamed)

-- Whatever other limits are raised, and whoever asks for more: while the limit of the group to
-- blame is as it was, the group that it is to blame for gets no more.
abbrev pub OnlyTheBlamedLimitHelps : Type 0
OnlyTheBlamedLimitHelps = (groups roomier : Groups) (demands : Demands) (amounts others : List ℕ)
    → IsInstance groups → IsInstance roomier → IsRoomier groups roomier
    → ((h : ℕ) → weight_of roomier.rows h ≡ weight_of groups.rows h)
    → IsGathered groups demands → IsPlan groups amounts → IsPlan roomier others
    → (g blamed : ℕ) → g < length groups.rows
    → slice_index amounts g < slice_index demands.want g
    → IsBlamed groups demands.most amounts g blamed
    → limit_of roomier blamed ≡ limit_of groups blamed
    → slice_index others g ≤ slice_index amounts g

-- The limit of the group to blame, raised by a slice, gives it the slice, or it is no longer to
-- blame for any group.
abbrev pub BlamedGainsOrIsClear : Type 0
BlamedGainsOrIsClear = (groups raised : Groups) (demands raised_demands : Demands)
    (amounts others : List ℕ) (g blamed limit : ℕ) → IsInstance groups → IsInstance raised
    → IsRoomierAt groups raised blamed → limit_of groups blamed ≡ Some limit
    → limit_of raised blamed ≡ Some (limit + 1)
    → IsGathered groups demands → IsGathered raised raised_demands
    → IsPlan groups amounts → IsPlan raised others → g < length groups.rows
    → slice_index amounts g < slice_index demands.want g
    → IsBlamed groups demands.most amounts g blamed
    → (slice_index others blamed ≡ slice_index amounts blamed + 1)
    ⊎ ((slice_index others blamed ≡ slice_index amounts blamed)
    × ((h : ℕ) → ¬ IsBlamed raised raised_demands.most others h blamed))
