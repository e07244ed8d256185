-- The weights with which all goals are met, in columns of numbers.
use Rattle.std.specs.Prelude.{◌≡◌, ◌==◌, ℕ, List, Bool, map, if◌then◌else◌}
use Rattle.bw_model.specs.declared.row.Row.{Row}
use Rattle.bw_model.specs.Groups.{Groups}
use Rattle.bw_questions.specs.declared.from_root.measure.Measure.{Measure}
use Rattle.bw_questions.specs.declared.from_root.measure.Measure.TheVariants.{Planned, Guaranteed}
use Rattle.bw_questions.specs.declared.from_root.least.Tuned.{Tuned}
use Rattle.bw_questions.specs.declared.from_root.least.Tuned.TheVariants.{Met, Unmet}
use Rattle.bw_questions.specs.Lowered.{IsTuned}
use Rattle.bw_columns.specs.declared.from_root.TheConstants.{NO_GOAL}

-- the measure that a number names: the plan for 0, the guarantee for any other
abbrev pub measure_of : ℕ → Measure
measure_of number = if number == 0 then Planned else Guaranteed

-- the weight of each row
abbrev pub weights_of : List Row → List ℕ
weights_of rows = map (λ r. r.weight) rows

-- Of weights that meet all goals: the weights, and the number of no goal. Else the weights of the
-- groups, and the row whose goals cannot be met together.
abbrev pub IsToldOfRoot : Groups → Tuned → List ℕ → ℕ → Type 0
IsToldOfRoot groups (Met tuned) weights unmet =
    (weights ≡ weights_of tuned.rows) × (unmet ≡ NO_GOAL)
IsToldOfRoot groups (Unmet top) weights unmet =
    (weights ≡ weights_of groups.rows) × (unmet ≡ top)

-- the weights that meet all goals, or a group whose goals no weights meet together, told
pub record IsFromRootTold (measure : Measure) (groups : Groups) (goals : List ℕ) (may : List Bool)
    (weights : List ℕ) (unmet : ℕ) : Type 0 where
  pub tuned : Tuned
  pub held : IsTuned measure groups goals may tuned
  pub told : IsToldOfRoot groups tuned weights unmet
