-- Weights of rows that may change, with which all goals are met: the least ones from the root down.
use Rattle.std.specs.Prelude.{◌≡◌, ◌≢◌, ◌⊎◌, ℕ, ◌<◌, ◌≤◌, List, Bool, true, false, Some, length}
use Rattle.std.specs.Prelude.{map, slice_index, slice_index_or, if◌then◌else◌}
use Rattle.std.specs.List.{range_with_len}
use Rattle.bw_model.specs.declared.limits.TheConstants.{MIN_WEIGHT, MAX_WEIGHT}
use Rattle.bw_model.specs.declared.row.Row.{Row}
use Rattle.bw_model.specs.Groups.{Groups, IsInstance, parent_of, row_of, weight_of, demand_of}
use Rattle.bw_model.specs.Groups.{limit_of, is_leaf, is_under}
use Rattle.bw_model.specs.Plan.{IsPlan}
use Rattle.bw_questions.specs.changes.Tree.{IsSameTree}
use Rattle.bw_questions.specs.Guarantee.{IsGuaranteed}
use Rattle.bw_questions.specs.declared.from_root.measure.Measure.{Measure}
use Rattle.bw_questions.specs.declared.from_root.measure.Measure.TheVariants.{Planned, Guaranteed}
use Rattle.bw_questions.specs.declared.from_root.least.Tuned.{Tuned}
use Rattle.bw_questions.specs.declared.from_root.least.Tuned.TheVariants.{Met, Unmet}

-- An instance that differs from another in weights alone, and in those of rows that may change.
pub record IsReweightedAt (groups others : Groups) (may : List Bool) : Type 0 where
  pub valid : IsInstance others
  pub shape : others.shape ≡ groups.shape
  pub tree : IsSameTree groups.rows others.rows
  pub demands : (h : ℕ) → demand_of others.rows h ≡ demand_of groups.rows h
  pub limits : (h : ℕ) → limit_of others h ≡ limit_of groups h
  pub weights : (h : ℕ) → slice_index_or may h false ≡ false
      → weight_of others.rows h ≡ weight_of groups.rows h

-- the plan gives each row its goal
pub record AreReached (groups : Groups) (goals : List ℕ) : Type 0 where
  pub amounts : List ℕ
  pub plan : IsPlan groups amounts
  pub met : (h : ℕ) → h < length groups.rows → slice_index goals h ≤ slice_index amounts h

-- the plan gives its goal to a group and to each row below it
pub record AreReachedUnder (groups : Groups) (goals : List ℕ) (top : ℕ) : Type 0 where
  pub amounts : List ℕ
  pub plan : IsPlan groups amounts
  pub met : (h : ℕ) → h < length groups.rows → is_under groups.rows top h ≡ true
      → slice_index goals h ≤ slice_index amounts h

-- a row has its goal, whatever the groups ask for that are not under it
pub record IsKept (groups : Groups) (goals : List ℕ) (h : ℕ) : Type 0 where
  pub least : ℕ
  pub guarantee : IsGuaranteed groups h least
  pub enough : slice_index goals h ≤ least

-- each row has its goal, by the plan or by its guarantee
abbrev pub AreMet : Measure → Groups → List ℕ → Type 0
AreMet Planned groups goals = AreReached groups goals
AreMet Guaranteed groups goals = (h : ℕ) → h < length groups.rows → IsKept groups goals h

-- a group and each row below it has its goal, by the plan or by its guarantee
abbrev pub AreMetUnder : Measure → Groups → List ℕ → ℕ → Type 0
AreMetUnder Planned groups goals top = AreReachedUnder groups goals top
AreMetUnder Guaranteed groups goals top = (h : ℕ) → h < length groups.rows
    → is_under groups.rows top h ≡ true → IsKept groups goals h

-- no weight of the second is less than that of the first
abbrev pub IsNoLighter : Groups → Groups → Type 0
IsNoLighter groups others = (h : ℕ) → weight_of groups.rows h ≤ weight_of others.rows h

-- equal weights of each group above a row and of that group's siblings
abbrev pub AgreesAbove : Groups → Groups → ℕ → Type 0
AgreesAbove groups others h = (a s p : ℕ) → is_under groups.rows a h ≡ true → a ≢ h
    → parent_of groups.rows a ≡ Some p → parent_of groups.rows s ≡ Some p
    → weight_of others.rows s ≡ weight_of groups.rows s

-- Weights of rows that may change, none less than those that stand, that meet all goals. Of all
-- such weights that agree above a row, theirs of that row is the least.
pub record IsLeastFromRoot (measure : Measure) (groups : Groups) (goals : List ℕ)
    (may : List Bool) (tuned : Groups) : Type 0 where
  pub reweighted : IsReweightedAt groups tuned may
  pub no_lighter : IsNoLighter groups tuned
  pub met : AreMet measure tuned goals
  pub least : (others : Groups) → IsReweightedAt groups others may → IsNoLighter groups others
      → AreMet measure others goals → (h : ℕ) → AgreesAbove tuned others h
      → weight_of tuned.rows h ≤ weight_of others.rows h

-- a goal within its row's limit and, of a leaf, within its demand
pub record GoalFits (groups : Groups) (goals : List ℕ) (h : ℕ) : Type 0 where
  pub limit : (limit : ℕ) → limit_of groups h ≡ Some limit → slice_index goals h ≤ limit
  pub demand : is_leaf groups.rows h ≡ true → slice_index goals h ≤ demand_of groups.rows h

-- the goal of each row below a group fits
abbrev pub FitBelow : Groups → List ℕ → ℕ → Type 0
FitBelow groups goals top = (h : ℕ) → h < length groups.rows → is_under groups.rows top h ≡ true
    → h ≢ top → GoalFits groups goals h

-- no weights of rows that may change, none less than those that stand, meet the goals of a group
-- and below it by the plan, though each goal below it fits
pub record IsNeverReached (groups : Groups) (goals : List ℕ) (may : List Bool) (top : ℕ) : Type 0
  where
    pub within : top < length groups.rows
    pub lowest : FitBelow groups goals top
    pub never : (others : Groups) → IsReweightedAt groups others may → IsNoLighter groups others
        → AreReachedUnder others goals top → ⊥

-- the least weights from the root down with which the plan meets the goals, or a group whose goals
-- no weights meet together
abbrev pub IsFromRoot : Groups → List ℕ → List Bool → Tuned → Type 0
IsFromRoot groups goals may (Met tuned) = IsLeastFromRoot Planned groups goals may tuned
IsFromRoot groups goals may (Unmet top) = IsNeverReached groups goals may top

-- Weights of rows that may change that meet all goals, where none that are no less than those that
-- stand do. Of all such weights that agree above a row, theirs of that row is the least.
pub record IsLeastOfAllFromRoot (measure : Measure) (groups : Groups) (goals : List ℕ)
    (may : List Bool) (tuned : Groups) : Type 0 where
  pub reweighted : IsReweightedAt groups tuned may
  pub met : AreMet measure tuned goals
  pub none_heavier : (others : Groups) → IsReweightedAt groups others may
      → AreMet measure others goals → ¬ IsNoLighter groups others
  pub least : (others : Groups) → IsReweightedAt groups others may → AreMet measure others goals
      → (h : ℕ) → AgreesAbove tuned others h
      → weight_of tuned.rows h ≤ weight_of others.rows h

-- No weights of rows that may change meet the goals of a group and below it, though each goal below
-- below it fits. So of goals one above another that do not fit, the lowest is named.
pub record AreNeverMet (measure : Measure) (groups : Groups) (goals : List ℕ) (may : List Bool)
    (top : ℕ) : Type 0 where
  pub within : top < length groups.rows
  pub lowest : FitBelow groups goals top
  pub never : (others : Groups) → IsReweightedAt groups others may
      → ¬ AreMetUnder measure others goals top

-- The least weights from the root down that are no less than those that stand, or else of all, or a
-- group whose goals no weights meet together.
abbrev pub IsTunedFromRoot : Measure → Groups → List ℕ → List Bool → Tuned → Type 0
IsTunedFromRoot measure groups goals may (Met tuned) =
    IsLeastFromRoot measure groups goals may tuned
    ⊎ IsLeastOfAllFromRoot measure groups goals may tuned
IsTunedFromRoot measure groups goals may (Unmet top) = AreNeverMet measure groups goals may top

-- Two answers with weights that meet all goals have equal weights.
abbrev pub ThereIsOneFromRoot : Type 0
ThereIsOneFromRoot = (measure : Measure) (groups one two : Groups) (goals : List ℕ)
    (may : List Bool) → IsTunedFromRoot measure groups goals may (Met one)
    → IsTunedFromRoot measure groups goals may (Met two)
    → (h : ℕ) → weight_of two.rows h ≡ weight_of one.rows h

-- the least weight that a row may have
abbrev pub floor_of : List Row → List Bool → ℕ → ℕ
floor_of rows may g = if slice_index_or may g false then MIN_WEIGHT else weight_of rows g

-- one least weight for each row
pub record AreFloors (rows : List Row) (may : List Bool) (floors : List ℕ) : Type 0 where
  pub one_each : length floors ≡ length rows
  pub each : (g : ℕ) → g < length rows → slice_index floors g ≡ floor_of rows may g

-- the groups in which each row that may change has the least weight
pub record IsLightened (groups : Groups) (may : List Bool) (light : Groups) : Type 0 where
  pub reweighted : IsReweightedAt groups light may
  pub least : (g : ℕ) → g < length groups.rows → slice_index_or may g false ≡ true
      → weight_of light.rows g ≡ MIN_WEIGHT

-- the greatest weight that a row may have
abbrev pub top_of : List Row → List Bool → ℕ → ℕ
top_of rows may g = if slice_index_or may g false then MAX_WEIGHT else weight_of rows g

-- one greatest weight for each row
pub record AreTops (rows : List Row) (may : List Bool) (tops : List ℕ) : Type 0 where
  pub one_each : length tops ≡ length rows
  pub each : (g : ℕ) → g < length rows → slice_index tops g ≡ top_of rows may g

-- one weight in range for each row
pub record AreRowWeights (rows : List Row) (weights : List ℕ) : Type 0 where
  pub one_each : length weights ≡ length rows
  pub in_range : (g : ℕ) → g < length rows → (MIN_WEIGHT ≤ slice_index weights g)
      × (slice_index weights g ≤ MAX_WEIGHT)

-- the row of a group with another weight
abbrev pub weighed_row : List Row → List ℕ → ℕ → Row
weighed_row rows weights g = record (row_of rows g) { weight = slice_index weights g }

-- the groups with other weights
abbrev pub weighed : Groups → List ℕ → Groups
weighed groups weights = record {
  shape = groups.shape;
  rows = map (weighed_row groups.rows weights) (range_with_len 0 (length groups.rows));
}
