-- Numbers of the formulas, by which callers of another language name them.
use Rattle.std.specs.Prelude.{◌≡◌, ℕ}
use Rattle.bw_owned.specs.declared.formula.WeightFormula.{WeightFormula}
use Rattle.bw_owned.specs.declared.formula.WeightFormula.TheVariants.{SharesLinear}
use Rattle.bw_owned.specs.declared.formula.WeightFormula.TheVariants.{SharesLogarithmic}
use Rattle.bw_owned.specs.declared.formula.WeightFormula.TheVariants.{RequestLinear}
use Rattle.bw_owned.specs.declared.formula.WeightFormula.TheVariants.{RequestLogarithmic}
use Rattle.bw_owned.specs.declared.formula.WeightFormula.TheVariants.{UnitShares, UnitWeight}
use Rattle.bw_owned.specs.declared.formula.LimitFormula.{LimitFormula}
use Rattle.bw_owned.specs.declared.formula.LimitFormula.TheVariants.{Thousandths, Billionths}
use Rattle.bw_owned.specs.declared.formula.LimitFormula.TheVariants.{Quota, PerSecond}

-- the number of a formula of weights, 1 to 6
abbrev pub weight_formula_number : WeightFormula → ℕ
weight_formula_number SharesLinear = 1
weight_formula_number SharesLogarithmic = 2
weight_formula_number RequestLinear = 3
weight_formula_number RequestLogarithmic = 4
weight_formula_number UnitShares = 5
weight_formula_number UnitWeight = 6

-- the number of a formula of limits, 1 to 4
abbrev pub limit_formula_number : LimitFormula → ℕ
limit_formula_number Thousandths = 1
limit_formula_number Billionths = 2
limit_formula_number Quota = 3
limit_formula_number PerSecond = 4

-- a number that no formula has
abbrev pub IsNumberOfNoFormula : {F : Type 0} → (F → ℕ) → ℕ → Type 0
IsNumberOfNoFormula {F} number_of number = (formula : F) → number_of formula ≡ number → ⊥
