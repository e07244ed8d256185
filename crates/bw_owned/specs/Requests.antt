-- Numbers that are written for requests.
use Rattle.std.specs.Prelude.{ℕ, ◌*◌, ◌/◌, ◌%◌, ◌+◌, min, max}
use Rattle.bw_model.specs.declared.limits.TheConstants.{MIN_WEIGHT, MAX_WEIGHT}
use Rattle.bw_owned.specs.declared.request.TheConstants.{WEIGHT_REQUEST}
use Rattle.bw_owned.specs.declared.formula.WeightFormula.{WeightFormula}
use Rattle.bw_owned.specs.declared.formula.WeightFormula.TheVariants.{SharesLinear}
use Rattle.bw_owned.specs.declared.formula.WeightFormula.TheVariants.{SharesLogarithmic}
use Rattle.bw_owned.specs.declared.formula.WeightFormula.TheVariants.{RequestLinear}
use Rattle.bw_owned.specs.declared.formula.WeightFormula.TheVariants.{RequestLogarithmic}
use Rattle.bw_owned.specs.declared.formula.WeightFormula.TheVariants.{UnitShares, UnitWeight}
use Rattle.bw_owned.specs.Shares.{bounded}

-- The shares of a request in thousandths of a CPU: 1024 for each CPU, rounded down, and within 2 to
-- 262144 (kubelet's `MilliCPUToShares`).
abbrev pub shares_of_request : ℕ → ℕ
shares_of_request request = bounded (request * 1024 / 1000)

-- the `CPUWeight=` of a request in thousandths of a CPU: 100 for each CPU, rounded up, and within 1
-- to 10000
abbrev pub weight_of_request : ℕ → ℕ
weight_of_request request =
    min
    (max (request / WEIGHT_REQUEST + min 1 (request % WEIGHT_REQUEST)) MIN_WEIGHT)
    MAX_WEIGHT

-- the number that is written for a request, where an owner sets what a formula takes
abbrev pub number_for_request : WeightFormula → ℕ → ℕ
number_for_request SharesLinear request = shares_of_request request
number_for_request SharesLogarithmic request = shares_of_request request
number_for_request RequestLinear request = request
number_for_request RequestLogarithmic request = request
number_for_request UnitShares request = shares_of_request request
number_for_request UnitWeight request = weight_of_request request
