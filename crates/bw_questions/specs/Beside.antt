-- Halves that others keep beside goals, and sums of goals up the tree.
use Rattle.std.specs.Prelude.{◌≡◌, ℕ, ◌-◌, ◌^◌, ◌<◌, ◌≤◌, List, Bool, true, ◌&&◌, not}
use Rattle.std.specs.Prelude.{length, min, max, nat_lt, slice_index, if◌then◌else◌}
use Rattle.std.specs.Int.{div_ceil}
use Rattle.std.specs.List.{list_any}
use Rattle.bw_model.specs.declared.row.Row.{Row}
use Rattle.bw_model.specs.Groups.{Groups, IsInstance, is_leaf, is_under, path_up}
use Rattle.bw_model.specs.Groups.{sum_of_children}
use Rattle.bw_model.specs.Plan.{IsPlan}
use Rattle.bw_questions.specs.Guarantee.{IsGuaranteed}
use Rattle.bw_questions.specs.declared.from_root.measure.Measure.{Measure}
use Rattle.bw_questions.specs.declared.from_root.measure.Measure.TheVariants.{Planned, Guaranteed}

-- an amount of a row: of the plan, or its guarantee
abbrev pub IsHad : Measure → Groups → ℕ → ℕ → Type 0
IsHad Planned groups h amount =
    (amounts : List ℕ) × IsPlan groups amounts × (slice_index amounts h ≡ amount)
IsHad Guaranteed groups h amount = IsGuaranteed groups h amount

-- the amounts of all rows
pub record AreHad (measure : Measure) (groups : Groups) (had : List ℕ) : Type 0 where
  pub one_each : length had ≡ length groups.rows
  pub each : (h : ℕ) → h < length groups.rows → IsHad measure groups h (slice_index had h)

-- whether a row, or a group above it, has a goal
unfoldable pub has_goal_above : List Row → List ℕ → ℕ → Bool
has_goal_above rows goals h = list_any (λ a. nat_lt 0 (slice_index goals a)) (path_up rows h)

-- whether a row is one of the others: a leaf below the root with no goal at it or above it
abbrev pub is_other : List Row → List ℕ → ℕ → Bool
is_other rows goals h = nat_lt 0 h && is_leaf rows h && not (has_goal_above rows goals h)

-- the goal of a row: of one of the others half of what it has, rounded up, else as it is asked for
abbrev pub kept_goal : List Row → List ℕ → List ℕ → ℕ → ℕ
kept_goal rows goals had h =
    if is_other rows goals h then div_ceil (slice_index had h) 2 else slice_index goals h

-- the goals, where each of the others is to keep half of what it has
pub record AreHalvesKept (measure : Measure) (groups : Groups) (goals kept : List ℕ) : Type 0 where
  pub had : List ℕ
  pub are_had : AreHad measure groups had
  pub one_each : length kept ≡ length groups.rows
  pub each : (h : ℕ) → h < length groups.rows
      → slice_index kept h ≡ kept_goal groups.rows goals had h

-- The sum of goals at each row: its goal, or what those of its children come to together, if that
-- is more. No sum is above the greatest number.
pub record AreGoalSums (rows : List Row) (goals sums : List ℕ) : Type 0 where
  pub one_each : length sums ≡ length rows
  pub each : (g : ℕ) → g < length rows → slice_index sums g
      ≡ max (slice_index goals g) (min (sum_of_children rows sums g) (2 ^ 64 - 1))

-- A plan that gives a row and each row below it its goal gives the row what these goals come to.
abbrev pub GoalsComeTo : Type 0
GoalsComeTo = (groups : Groups) (goals sums amounts : List ℕ) → IsInstance groups
    → AreGoalSums groups.rows goals sums → IsPlan groups amounts
    → (top : ℕ) → top < length groups.rows
    → ((h : ℕ) → h < length groups.rows → is_under groups.rows top h ≡ true
    → slice_index goals h ≤ slice_index amounts h)
    → slice_index sums top ≤ slice_index amounts top

-- No leaf that is one of the others is to keep more than it has by the plan.
abbrev pub HalvesAreHad : Type 0
HalvesAreHad = (groups : Groups) (goals kept amounts : List ℕ) → IsInstance groups
    → AreHalvesKept Planned groups goals kept → IsPlan groups amounts
    → (h : ℕ) → h < length groups.rows → is_other groups.rows goals h ≡ true
    → slice_index kept h ≤ slice_index amounts h
