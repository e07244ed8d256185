-- Weights of rows that follow one number that an owner sets.
use Rattle.std.specs.Prelude.{◌≡◌, ◌⊎◌, ℕ, ◌+◌, ◌-◌, ◌^◌, ◌<◌, ◌≤◌, List, false, length}
use Rattle.std.specs.Prelude.{min, max, slice_index}
use Rattle.bw_model.specs.declared.row.Row.{Row}
use Rattle.bw_model.specs.Groups.{Groups, IsInstance, row_of, weight_of, is_under}
use Rattle.bw_owned.specs.declared.formula.WeightFormula.{WeightFormula}
use Rattle.bw_owned.specs.Formulas.{weight_formula_number, IsNumberOfNoFormula}
use Rattle.bw_owned.specs.Weights.{IsOwnedWeight, IsUntoldNumber}
use Rattle.bw_settings.specs.declared.following.Following.{Following}

-- the columns: formulas by their numbers, least numbers, and what is beside the owner's number
pub record Follows : Type 0 where
  pub formulas : List ℕ
  pub floors : List ℕ
  pub bases : List ℕ

-- the program's columns, as lists
abbrev pub follows_of : Following → Follows
follows_of following = record {
  formulas = following.formulas.now;
  floors = following.floors.now;
  bases = following.bases.now;
}

-- one entry of each column for each row
pub record AreOneEach (groups : Groups) (follows : Follows) : Type 0 where
  pub formulas : length follows.formulas ≡ length groups.rows
  pub floors : length follows.floors ≡ length groups.rows
  pub bases : length follows.bases ≡ length groups.rows

-- The number of a row for the number that an owner sets: that and what is beside it, up to the
-- greatest of 64 bits, and no less than the floor.
abbrev pub number_at : Follows → ℕ → ℕ → ℕ
number_at follows number h =
    max (min (slice_index follows.bases h + number) (2 ^ 64 - 1)) (slice_index follows.floors h)

-- The weight that the formula of this number makes of a row's number. Where no formula has the
-- number, it is the weight that stands.
abbrev pub IsWeightBy : ℕ → ℕ → ℕ → ℕ → Type 0
IsWeightBy standing code number weight =
    ((formula : WeightFormula) × (weight_formula_number formula ≡ code)
    × IsOwnedWeight formula number weight)
    ⊎ (IsNumberOfNoFormula weight_formula_number code × (weight ≡ standing))

-- a number whose weight logarithms do not tell
abbrev pub IsUntold : Type 0
IsUntold = (formula : WeightFormula) × (number : ℕ) × IsUntoldNumber formula number

-- Groups that differ in weights alone. Those of the rows below the root that stand before one are
-- as formulas make them of the rows' numbers, and the others as they were.
pub record IsNumberedTo (groups : Groups) (formulas : List ℕ) (number_of : ℕ → ℕ) (to : ℕ)
    (others : Groups) : Type 0 where
  pub shape : others.shape ≡ groups.shape
  pub as_many : length others.rows ≡ length groups.rows
  pub alike : (h : ℕ) → row_of others.rows h
      ≡ record (row_of groups.rows h) { weight = weight_of others.rows h }
  pub root : weight_of others.rows 0 ≡ weight_of groups.rows 0
  pub weights : (h : ℕ) → 0 < h → h < to → IsWeightBy (weight_of groups.rows h)
      (slice_index formulas h) (number_of h) (weight_of others.rows h)
  pub later : (h : ℕ) → to ≤ h → weight_of others.rows h ≡ weight_of groups.rows h

-- the instance that the rows' numbers make
pub record IsNumbered (groups : Groups) (formulas : List ℕ) (number_of : ℕ → ℕ) (others : Groups)
    : Type 0 where
  pub valid : IsInstance others
  pub numbered : IsNumberedTo groups formulas number_of (length groups.rows) others

-- a row whose weight follows by a formula, and that is neither a group nor above it nor below it
abbrev pub IsBeside : List Row → ℕ → ℕ → ℕ → Type 0
IsBeside rows code group h =
    (h < length rows) × ((formula : WeightFormula) × (weight_formula_number formula ≡ code))
    × (is_under rows h group ≡ false) × (is_under rows group h ≡ false)

-- each row whose weight follows is a group, above it or below it
abbrev pub AreOnPath : List Row → List ℕ → ℕ → Type 0
AreOnPath rows formulas group = (h : ℕ) → h < length rows
    → IsBeside rows (slice_index formulas h) group h → ⊥
