-- The law of a limit, and of the groups that lack something below one that has its limit.
use Rattle.std.specs.Prelude.{◌≡◌, ◌≢◌, ℕ, ◌+◌, ◌<◌, ◌≤◌, ◌⊎◌, List, true, None, Some, length, min}
use Rattle.std.specs.Prelude.{slice_index}
use Rattle.bw_model.specs.Groups.{Groups, IsInstance, weight_of, demand_of, limit_of, is_under}
use Rattle.bw_model.specs.Demand.{AreMaxTotals, want_of}
use Rattle.bw_model.specs.Plan.{IsPlan}
use Rattle.bw_questions.specs.changes.Host.{IsRoomier}
use Rattle.bw_questions.specs.changes.Room.{IsRoomierAt}

-- Two instances that differ in one group's limit alone: the first has it, the second has none.
pub record IsLimitedAt (groups unlimited : Groups) (group limit : ℕ) : Type 0 where
  pub more : IsRoomierAt groups unlimited group
  pub demand : demand_of unlimited.rows group ≡ demand_of groups.rows group
  pub with_limit : limit_of groups group ≡ Some limit
  pub without : limit_of unlimited group ≡ None

-- With a limit a group has what it has without one, or the limit if that is less.
abbrev pub LimitOnlyCuts : Type 0
LimitOnlyCuts = (groups unlimited : Groups) (group limit : ℕ) (amounts others : List ℕ)
    → IsInstance groups → IsInstance unlimited → IsLimitedAt groups unlimited group limit
    → group < length groups.rows → IsPlan groups amounts → IsPlan unlimited others
    → slice_index amounts group ≡ min (slice_index others group) limit

-- Below a group that has no more in a roomier instance of the same weights: a group that lacks
-- something, as each between the two does, has no more.
abbrev pub NoMoreBelow : Type 0
NoMoreBelow = (groups roomier : Groups) (top group : ℕ) (most amounts others : List ℕ)
    → IsInstance groups → IsInstance roomier → IsRoomier groups roomier
    → ((h : ℕ) → weight_of roomier.rows h ≡ weight_of groups.rows h)
    → AreMaxTotals groups most → IsPlan groups amounts → IsPlan roomier others
    → group < length groups.rows → is_under groups.rows top group ≡ true
    → ((h : ℕ) → is_under groups.rows top h ≡ true → is_under groups.rows h group ≡ true
    → h ≢ top → slice_index amounts h < slice_index most h)
    → slice_index others top ≤ slice_index amounts top
    → slice_index others group ≤ slice_index amounts group

-- A group that gets its limit and wants more, and whose limit is raised by a slice: it gets a slice
-- more, or it gets as much and could then be given more.
abbrev pub LimitGivesOrLetsGo : Type 0
LimitGivesOrLetsGo = (groups raised : Groups) (group limit : ℕ)
    (most other_most amounts others : List ℕ)
    → IsInstance groups → IsInstance raised → IsRoomierAt groups raised group
    → limit_of groups group ≡ Some limit → limit_of raised group ≡ Some (limit + 1)
    → AreMaxTotals groups most → AreMaxTotals raised other_most
    → IsPlan groups amounts → IsPlan raised others → group < length groups.rows
    → slice_index amounts group ≡ limit → limit < want_of groups most group
    → (slice_index others group ≡ limit + 1)
    ⊎ ((slice_index others group ≡ limit) × (limit < slice_index other_most group))
