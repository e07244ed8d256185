-- Needs of groups, and the least weights at each group, from the root down.
use Rattle.std.specs.Prelude.{◌≡◌, ℕ, ◌<◌, ◌≤◌, List, Option, None, Some, false, length, map}
use Rattle.std.specs.Prelude.{slice_index}
use Rattle.bw_model.specs.declared.limits.TheConstants.{MAX_WEIGHT, MAX_CAPACITY}
use Rattle.bw_model.specs.declared.row.Row.{Row}
use Rattle.bw_model.specs.Groups.{Groups, parent_of, children_of, is_child, is_leaf}
use Rattle.bw_model.specs.Groups.{weight_of}
use Rattle.bw_model.specs.Demand.{AreMaxTotals}
use Rattle.bw_model.specs.Plan.{child_weights}
use Rattle.bw_questions.specs.declared.from_root.needs.Needs.{Needs}
use Rattle.bw_questions.specs.declared.from_root.needs.Needs.TheVariants.{Known, Beyond}
use Rattle.bw_questions.specs.Needs.{CanMeet, MeetsNeeds}

-- the values of a group's children, in order
abbrev pub of_children : List Row → List ℕ → ℕ → List ℕ
of_children rows values g = map (slice_index values) (children_of rows g)

-- One top, one most and one goal for each row. No weight is above its top.
pub record AreColumns (groups : Groups) (tops most goals : List ℕ) : Type 0 where
  pub mosts : AreMaxTotals groups most
  pub tops_each : length tops ≡ length groups.rows
  pub goals_each : length goals ≡ length groups.rows
  pub rising : (h : ℕ) → h < length groups.rows → weight_of groups.rows h ≤ slice_index tops h
  pub greatest : (h : ℕ) → h < length groups.rows → slice_index tops h ≤ MAX_WEIGHT

-- weights of a group's children, from those that stand to the tops, and the parts of an amount with
-- them, which are what the children need
abbrev pub MeetsAt : Groups → List ℕ → List ℕ → List ℕ → ℕ → ℕ → List ℕ → List ℕ → Type 0
MeetsAt groups tops most needs g amount weights parts =
    MeetsNeeds (child_weights groups.rows g) (of_children groups.rows tops g)
    (of_children groups.rows most g) (of_children groups.rows needs g) amount weights parts

-- some weights of a group's children give each what it needs of an amount
abbrev pub CanMeetAt : Groups → List ℕ → List ℕ → List ℕ → ℕ → ℕ → Type 0
CanMeetAt groups tops most needs g amount =
    CanMeet (child_weights groups.rows g) (of_children groups.rows tops g)
    (of_children groups.rows most g) (of_children groups.rows needs g) amount

-- With an amount a group has its goal, and its children can have what they need. The root has all
-- that is served.
pub record Suffices (groups : Groups) (tops most goals needs : List ℕ) (g amount : ℕ) : Type 0 where
  pub goal : slice_index goals g ≤ amount
  pub served : g ≡ 0 → slice_index most 0 ≤ amount
  pub within : amount ≤ slice_index most g
  pub small : amount ≤ MAX_CAPACITY
  pub inside : is_leaf groups.rows g ≡ false → CanMeetAt groups tops most needs g amount

-- the least number at which a fact holds, or None where it holds at none
abbrev pub IsLeastThat : (ℕ → Type 0) → Option ℕ → Type 0
IsLeastThat Holds None = (n : ℕ) → Holds n → ⊥
IsLeastThat Holds (Some n) = Holds n × ((m : ℕ) → Holds m → n ≤ m)

-- the least of the amounts that are no less than a group's goal and, at the root, than what is
-- served
pub record IsFirst (most goals : List ℕ) (g first : ℕ) : Type 0 where
  pub goal : slice_index goals g ≤ first
  pub served : g ≡ 0 → slice_index most 0 ≤ first
  pub least : (n : ℕ) → slice_index goals g ≤ n → (g ≡ 0 → slice_index most 0 ≤ n) → first ≤ n

-- one need for each row, and of those of a group's children none above what it can be given
pub record AreNeedsBelow (rows : List Row) (most needs : List ℕ) (g : ℕ) : Type 0 where
  pub one_each : length needs ≡ length rows
  pub within : (c : ℕ) → c < length rows → parent_of rows c ≡ Some g
      → slice_index needs c ≤ slice_index most c

-- the need of a group is the least amount that suffices
abbrev pub IsNeed : Groups → List ℕ → List ℕ → List ℕ → List ℕ → ℕ → Type 0
IsNeed groups tops most goals needs g =
    Suffices groups tops most goals needs g (slice_index needs g)
    × ((n : ℕ) → Suffices groups tops most goals needs g n → slice_index needs g ≤ n)

-- the need of each group
pub record AreAllNeeds (groups : Groups) (tops most goals needs : List ℕ) : Type 0 where
  pub one_each : length needs ≡ length groups.rows
  pub each : (g : ℕ) → g < length groups.rows → IsNeed groups tops most goals needs g

-- a group for which no amount suffices, and the needs of the groups after it
pub record IsBeyond (groups : Groups) (tops most goals : List ℕ) (g : ℕ) : Type 0 where
  pub within : g < length groups.rows
  pub needs : List ℕ
  pub later : (c : ℕ) → g < c → c < length groups.rows → IsNeed groups tops most goals needs c
  pub never : (n : ℕ) → Suffices groups tops most goals needs g n → ⊥

-- the needs of all groups, or a group for which no amount suffices
abbrev pub AreNeeds : Groups → List ℕ → List ℕ → List ℕ → Needs → Type 0
AreNeeds groups tops most goals (Known needs) = AreAllNeeds groups tops most goals needs.items
AreNeeds groups tops most goals (Beyond g) = IsBeyond groups tops most goals g

-- a group with children that has at least what it needs
pub record CanShareAt (groups : Groups) (tops most needs : List ℕ) (g amount : ℕ) : Type 0 where
  pub row : g < length groups.rows
  pub inner : is_leaf groups.rows g ≡ false
  pub needs_below : AreNeedsBelow groups.rows most needs g
  pub enough : slice_index needs g ≤ amount
  pub within : amount ≤ slice_index most g
  pub small : amount ≤ MAX_CAPACITY
  pub can : CanMeetAt groups tops most needs g (slice_index needs g)

-- the least weights of a group's children with which each has what it needs of an amount
pub record IsLeastAt (groups : Groups) (tops most needs : List ℕ) (g amount : ℕ)
    (weights parts : List ℕ) : Type 0 where
  pub meets : MeetsAt groups tops most needs g amount weights parts
  pub least : (others shares : List ℕ) → MeetsAt groups tops most needs g amount others shares
      → (k : ℕ) → k < length (children_of groups.rows g)
      → slice_index weights k ≤ slice_index others k

-- a group's children have the least weights and their parts, and the other rows what they had
pub record IsShared (groups : Groups) (tops most needs : List ℕ) (g : ℕ)
    (weights amounts new_weights new_amounts : List ℕ) : Type 0 where
  pub weights_each : length new_weights ≡ length groups.rows
  pub amounts_each : length new_amounts ≡ length groups.rows
  pub here : IsLeastAt groups tops most needs g (slice_index amounts g)
      (of_children groups.rows new_weights g) (of_children groups.rows new_amounts g)
  pub others : (i : ℕ) → is_child groups.rows g i ≡ false
      → (slice_index new_weights i ≡ slice_index weights i)
      × (slice_index new_amounts i ≡ slice_index amounts i)

-- the weight of each row
abbrev pub all_weights : List Row → List ℕ
all_weights rows = map (λ r. r.weight) rows

-- The root has its most and its weight. Each group before a row has shared out what it has with the
-- least weights of its children.
pub record IsPassed (groups : Groups) (tops most needs : List ℕ) (g : ℕ)
    (weights amounts : List ℕ) : Type 0 where
  pub weights_each : length weights ≡ length groups.rows
  pub amounts_each : length amounts ≡ length groups.rows
  pub root_weight : slice_index weights 0 ≡ weight_of groups.rows 0
  pub top : slice_index amounts 0 ≡ slice_index most 0
  pub small : (h : ℕ) → h < length groups.rows → slice_index amounts h ≤ MAX_CAPACITY
  pub done : (h : ℕ) → h < g → h < length groups.rows → is_leaf groups.rows h ≡ false
      → IsLeastAt groups tops most needs h (slice_index amounts h)
      (of_children groups.rows weights h) (of_children groups.rows amounts h)
