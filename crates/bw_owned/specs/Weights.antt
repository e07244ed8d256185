-- Weights of numbers that owners set.
use Rattle.std.specs.Prelude.{◌≡◌, ℕ, ◌*◌, ◌/◌, min, max}
use Rattle.bw_model.specs.declared.limits.TheConstants.{MIN_WEIGHT, MAX_WEIGHT}
use Rattle.bw_owned.specs.declared.shares.TheConstants.{DEFAULT_SHARES, DEFAULT_WEIGHT}
use Rattle.bw_owned.specs.declared.formula.WeightFormula.{WeightFormula}
use Rattle.bw_owned.specs.declared.formula.WeightFormula.TheVariants.{SharesLinear}
use Rattle.bw_owned.specs.declared.formula.WeightFormula.TheVariants.{SharesLogarithmic}
use Rattle.bw_owned.specs.declared.formula.WeightFormula.TheVariants.{RequestLinear}
use Rattle.bw_owned.specs.declared.formula.WeightFormula.TheVariants.{RequestLogarithmic}
use Rattle.bw_owned.specs.declared.formula.WeightFormula.TheVariants.{UnitShares, UnitWeight}
use Rattle.bw_owned.specs.Requests.{shares_of_request}
use Rattle.bw_owned.specs.Shares.{bounded, linear_weight, IsUntold, IsLogarithmicWeight}

-- the nearest weight that the kernel takes, 1 to 10000 (cgroup-v2.rst, `cpu.weight`)
abbrev pub bounded_weight : ℕ → ℕ
bounded_weight weight = min (max weight MIN_WEIGHT) MAX_WEIGHT

-- The weight of a unit's shares: 100 for each 1024, rounded down (systemd's
-- `cgroup_cpu_shares_to_weight`).
abbrev pub weight_of_unit_shares : ℕ → ℕ
weight_of_unit_shares shares = bounded_weight (shares * DEFAULT_WEIGHT / DEFAULT_SHARES)

-- the weight of a number by a formula
abbrev pub IsOwnedWeight : WeightFormula → ℕ → ℕ → Type 0
IsOwnedWeight SharesLinear number weight = weight ≡ linear_weight number
IsOwnedWeight SharesLogarithmic number weight = IsLogarithmicWeight (bounded number) weight
IsOwnedWeight RequestLinear number weight = weight ≡ linear_weight (shares_of_request number)
IsOwnedWeight RequestLogarithmic number weight =
    IsLogarithmicWeight (shares_of_request number) weight
IsOwnedWeight UnitShares number weight = weight ≡ weight_of_unit_shares number
IsOwnedWeight UnitWeight number weight = weight ≡ bounded_weight number

-- a number whose weight the logarithms of its shares do not tell
abbrev pub IsUntoldNumber : WeightFormula → ℕ → Type 0
IsUntoldNumber SharesLinear number = ⊥
IsUntoldNumber SharesLogarithmic number = IsUntold (bounded number)
IsUntoldNumber RequestLinear number = ⊥
IsUntoldNumber RequestLogarithmic number = IsUntold (shares_of_request number)
IsUntoldNumber UnitShares number = ⊥
IsUntoldNumber UnitWeight number = ⊥
