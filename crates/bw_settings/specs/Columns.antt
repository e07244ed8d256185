-- Columns of rows beside the number of one goal, which is left open.
use Rattle.std.specs.Prelude.{◌≡◌, ℕ, ◌+◌, ◌-◌, ◌^◌, ◌<◌, List, length, min, slice_index}
use Rattle.std.specs.Prelude.{if◌then◌else◌}
use Rattle.bw_model.specs.declared.row.Row.{Row}
use Rattle.bw_owned.specs.declared.formula.WeightFormula.{WeightFormula}
use Rattle.bw_owned.specs.Formulas.{weight_formula_number}
use Rattle.bw_settings.specs.Following.{Follows}
use Rattle.bw_settings.specs.Several.{Aims, counts_in, summed}

-- the number of a formula
abbrev pub IsOfFormula : ℕ → Type 0
IsOfFormula code = (formula : WeightFormula) × (weight_formula_number formula ≡ code)

-- a base, and what a row sums of owners' numbers, up to the greatest number
abbrev pub base_with : List Row → Follows → Aims → List ℕ → ℕ → ℕ
base_with rows follows aims numbers h =
    min (slice_index follows.bases h + summed rows aims numbers h) (2 ^ 64 - 1)

-- the bases of the rows before one with what they sum, where formulas make their weights
pub record AreBases (rows : List Row) (follows : Follows) (aims : Aims) (numbers : List ℕ)
    (to : ℕ) (bases : List ℕ) : Type 0 where
  pub one_each : length bases ≡ to
  pub each : (h : ℕ) → h < to → IsOfFormula (slice_index follows.formulas h)
      → slice_index bases h ≡ base_with rows follows aims numbers h

-- the formula of a row that sums the number of a goal, and of another one none
abbrev pub formula_of : List Row → List ℕ → Aims → ℕ → ℕ → ℕ
formula_of rows formulas aims k h =
    (if counts_in rows aims h k then slice_index formulas h else 0)

-- those of the rows before one
pub record AreFormulas (rows : List Row) (formulas : List ℕ) (aims : Aims) (k to : ℕ)
    (those : List ℕ) : Type 0 where
  pub one_each : length those ≡ to
  pub each : (h : ℕ) → h < to → slice_index those h ≡ formula_of rows formulas aims k h
