-- Weights of rows away from all goals, lowered where no other weights meet the goals.
use Rattle.std.specs.Prelude.{◌≡◌, ℕ, ◌<◌, ◌≤◌, List, Bool, false, ◌&&◌, not, length, map, min}
use Rattle.std.specs.Prelude.{nat_lt, slice_index, slice_index_or, if◌then◌else◌}
use Rattle.std.specs.List.{list_any, range_with_len}
use Rattle.bw_model.specs.declared.limits.TheConstants.{MIN_WEIGHT, MAX_WEIGHT}
use Rattle.bw_model.specs.declared.row.Row.{Row}
use Rattle.bw_model.specs.Groups.{Groups, is_under, weight_of}
use Rattle.bw_questions.specs.declared.from_root.least.Tuned.{Tuned}
use Rattle.bw_questions.specs.declared.from_root.least.Tuned.TheVariants.{Met, Unmet}
use Rattle.bw_questions.specs.declared.from_root.measure.Measure.{Measure}
use Rattle.bw_questions.specs.FromRoot.{AreMet, AreNeverMet, IsReweightedAt, IsTunedFromRoot}
use Rattle.bw_questions.specs.FromRoot.{weighed}

-- whether a row has a goal, and is a group or below it
abbrev pub has_goal_under : List Row → List ℕ → ℕ → ℕ → Bool
has_goal_under rows goals h g = nat_lt 0 (slice_index goals g) && is_under rows h g

-- whether a group or a row below it has a goal
unfoldable pub has_goal : List Row → List ℕ → ℕ → Bool
has_goal rows goals h = list_any (has_goal_under rows goals h) (range_with_len 0 (length rows))

-- whether each row, or a row below it, has a goal
pub record AreGoalFlags (rows : List Row) (goals : List ℕ) (flags : List Bool) : Type 0 where
  pub one_each : length flags ≡ length rows
  pub each : (h : ℕ) → h < length rows → slice_index_or flags h false ≡ has_goal rows goals h

-- whether a weight is one of the goals' own: it may change, and a goal is at the row or below it
abbrev pub is_own : List Row → List ℕ → List Bool → ℕ → Bool
is_own rows goals may h = slice_index_or may h false && has_goal rows goals h

-- for each row, whether its weight is one of the goals' own
abbrev pub own_rows : List Row → List ℕ → List Bool → List Bool
own_rows rows goals may = map (is_own rows goals may) (range_with_len 0 (length rows))

-- The weight of a row at a level. Where it may change, and no goal is at the row or below it, it is
-- no more than the level.
abbrev pub level_weight : List Row → List ℕ → List Bool → ℕ → ℕ → ℕ
level_weight rows goals may level h =
    if slice_index_or may h false && not (has_goal rows goals h)
    then min (weight_of rows h) level else weight_of rows h

-- the weights of all rows at a level
abbrev pub level_weights : List Row → List ℕ → List Bool → ℕ → List ℕ
level_weights rows goals may level =
    map (level_weight rows goals may level) (range_with_len 0 (length rows))

-- the groups with their weights at a level
abbrev pub lowered : Groups → List ℕ → List Bool → ℕ → Groups
lowered groups goals may level = weighed groups (level_weights groups.rows goals may level)

-- At a level, some own weights meet all goals.
pub record CanBeMetAt (measure : Measure) (groups : Groups) (goals : List ℕ) (may : List Bool)
    (level : ℕ) : Type 0 where
  pub others : Groups
  pub reweighted : IsReweightedAt (lowered groups goals may level) others
      (own_rows groups.rows goals may)
  pub met : AreMet measure others goals

-- the greatest level at which some own weights meet all goals
pub record IsGreatestLevel (measure : Measure) (groups : Groups) (goals : List ℕ)
    (may : List Bool) (level : ℕ) : Type 0 where
  pub no_lower : MIN_WEIGHT ≤ level
  pub no_higher : level ≤ MAX_WEIGHT
  pub met : CanBeMetAt measure groups goals may level
  pub greatest : (higher : ℕ) → level < higher → higher ≤ MAX_WEIGHT
      → ¬ CanBeMetAt measure groups goals may higher

-- Weights that meet all goals. Those of rows away from the goals are at the greatest level, and the
-- own ones are the least from the root down beside them.
pub record IsTunedAtLevel (measure : Measure) (groups : Groups) (goals : List ℕ)
    (may : List Bool) (tuned : Groups) : Type 0 where
  pub level : ℕ
  pub greatest : IsGreatestLevel measure groups goals may level
  pub own : IsTunedFromRoot measure (lowered groups goals may level) goals
      (own_rows groups.rows goals may) (Met tuned)

-- The weights at the greatest level that meet all goals, or a group whose goals no weights meet
-- together.
abbrev pub IsTuned : Measure → Groups → List ℕ → List Bool → Tuned → Type 0
IsTuned measure groups goals may (Met tuned) = IsTunedAtLevel measure groups goals may tuned
IsTuned measure groups goals may (Unmet top) = AreNeverMet measure groups goals may top

-- Two answers with weights that meet all goals have equal weights.
abbrev pub ThereIsOneTuned : Type 0
ThereIsOneTuned = (measure : Measure) (groups one two : Groups) (goals : List ℕ)
    (may : List Bool) → IsTuned measure groups goals may (Met one)
    → IsTuned measure groups goals may (Met two)
    → (h : ℕ) → weight_of two.rows h ≡ weight_of one.rows h
