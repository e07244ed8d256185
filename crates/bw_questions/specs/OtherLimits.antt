-- Limits of rows away from all goals, lowered until weights of rows that may change meet the goals.
use Rattle.std.specs.Prelude.{◌≡◌, ℕ, ◌<◌, ◌≤◌, ◌==◌, List, Bool, true, false, ◌&&◌, ◌||◌, not}
use Rattle.std.specs.Prelude.{Option, Some, length, map, min, max, nat_lt, slice_index}
use Rattle.std.specs.Prelude.{if◌then◌else◌}
use Rattle.std.specs.List.{list_any, range_with_len}
use Rattle.std.specs.Option.{option_map_or}
use Rattle.bw_model.specs.declared.row.Row.{Row}
use Rattle.bw_model.specs.Groups.{Groups, is_under, row_of}
use Rattle.bw_model.specs.Host.{capacity_of}
use Rattle.bw_questions.specs.FromRoot.{AreMet, IsReweightedAt}
use Rattle.bw_questions.specs.HeldRule.{own_limit}
use Rattle.bw_questions.specs.declared.from_root.measure.Measure.{Measure}
use Rattle.bw_questions.specs.declared.other_limits.limited.Limited.{Limited}
use Rattle.bw_questions.specs.declared.other_limits.limited.Limited.TheVariants.{Met, Unmet}

-- the limit in force of a row: its own, or the capacity if that is less or if it has none
abbrev pub full_limit : Groups → ℕ → ℕ
full_limit groups h =
    option_map_or (min (capacity_of groups.shape)) (own_limit groups.rows h)
    (capacity_of groups.shape)

-- whether a row has a goal, and is a group, above it or below it
abbrev pub has_goal_near : List Row → List ℕ → ℕ → ℕ → Bool
has_goal_near rows goals h g =
    nat_lt 0 (slice_index goals g) && (is_under rows g h || is_under rows h g)

-- whether a row may get a lower limit: it is below the root, and no goal is at, above or below it
unfoldable pub is_free : List Row → List ℕ → ℕ → Bool
is_free rows goals h =
    nat_lt 0 h && not (list_any (has_goal_near rows goals h) (range_with_len 0 (length rows)))

-- the row of a group with a limit, if that is below the limit in force
abbrev pub cut_row : Groups → List ℕ → ℕ → Row
cut_row groups limits h = record (row_of groups.rows h) {
  limit =
      if nat_lt (slice_index limits h) (full_limit groups h) then Some (slice_index limits h)
      else own_limit groups.rows h;
}

-- the groups with these limits, where they are below those in force
abbrev pub cut_to : Groups → List ℕ → Groups
cut_to groups limits = record {
  shape = groups.shape;
  rows = map (cut_row groups limits) (range_with_len 0 (length groups.rows));
}

-- With these limits, some weights of rows that may change meet all goals.
pub record CanBeMet (measure : Measure) (groups : Groups) (goals : List ℕ) (may : List Bool)
    (limits : List ℕ) : Type 0 where
  pub others : Groups
  pub reweighted : IsReweightedAt (cut_to groups limits) others may
  pub met : AreMet measure others goals

-- The limit of a row at a level: the limit in force of a row that is not free. A free row has the
-- level, but no less than its lowest limit, and no more than the limit in force.
abbrev pub limit_at : Groups → List ℕ → List ℕ → ℕ → ℕ → ℕ
limit_at groups goals lowest level h =
    if is_free groups.rows goals h
    then min (full_limit groups h) (max (slice_index lowest h) level) else full_limit groups h

-- the limits of all rows at a level
abbrev pub at_level : Groups → List ℕ → List ℕ → ℕ → List ℕ
at_level groups goals lowest level =
    map (limit_at groups goals lowest level) (range_with_len 0 (length groups.rows))

-- One limit for each row, none below that at a level and none above the limit in force. So a row
-- that is not free has the limit in force.
pub record AreLimitsFrom (groups : Groups) (goals lowest : List ℕ) (level : ℕ) (limits : List ℕ)
    : Type 0 where
  pub one_each : length limits ≡ length groups.rows
  pub no_lower : (h : ℕ) → h < length groups.rows
      → limit_at groups goals lowest level h ≤ slice_index limits h
  pub no_higher : (h : ℕ) → h < length groups.rows → slice_index limits h ≤ full_limit groups h

-- the greatest level at which goals can be met, up to the capacity
pub record IsGreatestLevel (measure : Measure) (groups : Groups) (goals : List ℕ)
    (may : List Bool) (lowest : List ℕ) (level : ℕ) : Type 0 where
  pub within : level ≤ capacity_of groups.shape
  pub met : CanBeMet measure groups goals may (at_level groups goals lowest level)
  pub greatest : (higher : ℕ) → level < higher → higher ≤ capacity_of groups.shape
      → ¬ CanBeMet measure groups goals may (at_level groups goals lowest higher)

-- Limits from a level on with which goals can be met. Of all such limits that are equal in the rows
-- before a row, theirs of that row is the greatest.
pub record IsRaisedInTurn (measure : Measure) (groups : Groups) (goals : List ℕ)
    (may : List Bool) (lowest : List ℕ) (level : ℕ) (limits : List ℕ) : Type 0 where
  pub from_level : AreLimitsFrom groups goals lowest level limits
  pub met : CanBeMet measure groups goals may limits
  pub greatest : (others : List ℕ) → AreLimitsFrom groups goals lowest level others
      → CanBeMet measure groups goals may others → (h : ℕ) → h < length groups.rows
      → ((g : ℕ) → g < h → slice_index others g ≡ slice_index limits g)
      → slice_index others h ≤ slice_index limits h

-- the greatest level, and then the greatest limit of each row in row order from that level on
pub record AreGreatestLimits (measure : Measure) (groups : Groups) (goals : List ℕ)
    (may : List Bool) (lowest limits : List ℕ) : Type 0 where
  pub level : ℕ
  pub greatest : IsGreatestLevel measure groups goals may lowest level
  pub raised : IsRaisedInTurn measure groups goals may lowest level limits

-- The greatest limits with which goals can be met. Or none from the lowest on are such.
abbrev pub IsLimited : Measure → Groups → List ℕ → List Bool → List ℕ → Limited → Type 0
IsLimited measure groups goals may lowest (Met limits) =
    AreGreatestLimits measure groups goals may lowest limits.items
IsLimited measure groups goals may lowest Unmet = (limits : List ℕ)
    → AreLimitsFrom groups goals lowest 0 limits → ¬ CanBeMet measure groups goals may limits

-- Two answers have equal limits.
abbrev pub LimitsAreOne : Type 0
LimitsAreOne = (measure : Measure) (groups : Groups) (goals : List ℕ) (may : List Bool)
    (lowest one two : List ℕ) → AreGreatestLimits measure groups goals may lowest one
    → AreGreatestLimits measure groups goals may lowest two
    → (h : ℕ) → h < length groups.rows → slice_index two h ≡ slice_index one h

-- One limit for each row, none above the limit in force. A row that is not free has the limit in
-- force.
pub record AreCuts (groups : Groups) (goals limits : List ℕ) : Type 0 where
  pub one_each : length limits ≡ length groups.rows
  pub no_higher : (h : ℕ) → h < length groups.rows → slice_index limits h ≤ full_limit groups h
  pub kept : (h : ℕ) → h < length groups.rows → is_free groups.rows goals h ≡ false
      → slice_index limits h ≡ full_limit groups h

-- whether a row is raised: each one, or one alone
abbrev pub is_raised : Option ℕ → ℕ → Bool
is_raised only h = option_map_or (λ row. row == h) only true

-- the limit of a row, raised to a level but not above the limit in force
abbrev pub raised_limit : Groups → List ℕ → Option ℕ → ℕ → ℕ → ℕ
raised_limit groups limits only level h =
    if is_raised only h then min (full_limit groups h) (max (slice_index limits h) level)
    else slice_index limits h

-- the limits with those of all rows, or of one alone, raised to a level
abbrev pub raised_limits : Groups → List ℕ → Option ℕ → ℕ → List ℕ
raised_limits groups limits only level =
    map (raised_limit groups limits only level) (range_with_len 0 (length groups.rows))

-- the greatest level of a range to which limits can be raised
pub record IsGreatestRaise (measure : Measure) (groups : Groups) (goals : List ℕ)
    (may : List Bool) (limits : List ℕ) (only : Option ℕ) (low high level : ℕ) : Type 0 where
  pub no_lower : low ≤ level
  pub no_higher : level ≤ high
  pub met : CanBeMet measure groups goals may (raised_limits groups limits only level)
  pub greatest : (more : ℕ) → level < more → more ≤ high
      → ¬ CanBeMet measure groups goals may (raised_limits groups limits only more)
