-- The least number that gives a weight.
use Rattle.std.specs.Prelude.{ℕ, ◌<◌, ◌≤◌}
use Rattle.bw_model.specs.declared.limits.TheConstants.{MIN_WEIGHT, MAX_WEIGHT}
use Rattle.bw_owned.specs.declared.shares.TheConstants.{MIN_SHARES, MAX_SHARES}
use Rattle.bw_owned.specs.declared.request.TheConstants.{MAX_REQUEST}
use Rattle.bw_owned.specs.declared.formula.WeightFormula.{WeightFormula}
use Rattle.bw_owned.specs.declared.formula.WeightFormula.TheVariants.{SharesLinear}
use Rattle.bw_owned.specs.declared.formula.WeightFormula.TheVariants.{SharesLogarithmic}
use Rattle.bw_owned.specs.declared.formula.WeightFormula.TheVariants.{RequestLinear}
use Rattle.bw_owned.specs.declared.formula.WeightFormula.TheVariants.{RequestLogarithmic}
use Rattle.bw_owned.specs.declared.formula.WeightFormula.TheVariants.{UnitShares, UnitWeight}
use Rattle.bw_owned.specs.Weights.{IsOwnedWeight}

-- the least number that an owner can set by a formula
abbrev pub first_number : WeightFormula → ℕ
first_number SharesLinear = MIN_SHARES
first_number SharesLogarithmic = MIN_SHARES
first_number RequestLinear = 0
first_number RequestLogarithmic = 0
first_number UnitShares = MIN_SHARES
first_number UnitWeight = MIN_WEIGHT

-- the least number that has the greatest weight, or the greatest that an owner can set
abbrev pub last_number : WeightFormula → ℕ
last_number SharesLinear = MAX_SHARES
last_number SharesLogarithmic = MAX_SHARES
last_number RequestLinear = MAX_REQUEST
last_number RequestLogarithmic = MAX_REQUEST
last_number UnitShares = MAX_SHARES
last_number UnitWeight = MAX_WEIGHT

-- The least number of those that an owner can set whose weight is at least so much.
pub record IsLeastNumber (formula : WeightFormula) (weight number : ℕ) : Type 0 where
  pub can_be_set : (first_number formula ≤ number) × (number ≤ last_number formula)
  pub reaches : (given : ℕ) × IsOwnedWeight formula number given × (weight ≤ given)
  pub least : (lesser given : ℕ) → first_number formula ≤ lesser → lesser < number
      → IsOwnedWeight formula lesser given → given < weight
