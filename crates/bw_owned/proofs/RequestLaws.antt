-- Numbers that are written for requests grow, and weigh what the requests weigh.
use Rattle.std.proofs.Common.{ℕ, ◌≤◌, ◌≡◌, arith, sym, subst}
use Rattle.bw_owned.specs.declared.formula.WeightFormula.TheVariants.{SharesLinear}
use Rattle.bw_owned.specs.declared.formula.WeightFormula.TheVariants.{SharesLogarithmic}
use Rattle.bw_owned.specs.declared.formula.WeightFormula.TheVariants.{RequestLinear}
use Rattle.bw_owned.specs.declared.formula.WeightFormula.TheVariants.{RequestLogarithmic}
use Rattle.bw_owned.specs.declared.formula.WeightFormula.TheVariants.{UnitShares, UnitWeight}
use Rattle.bw_owned.specs.Shares.{bounded, IsLogarithmicWeight}
use Rattle.bw_owned.specs.Requests.{shares_of_request, weight_of_request}
use Rattle.bw_owned.specs.Laws.{RequestsAreWritten, SharesWeighAsRequests}
use Rattle.bw_owned.proofs.WeightLaws.{shares_le}

weight_le : (request more : ℕ) → request ≤ more
    → weight_of_request request ≤ weight_of_request more
weight_le request more within = omega (arith, within)

pub requests_are_written : RequestsAreWritten
requests_are_written SharesLinear request more within = shares_le request more within
requests_are_written SharesLogarithmic request more within = shares_le request more within
requests_are_written RequestLinear request more within = within
requests_are_written RequestLogarithmic request more within = within
requests_are_written UnitShares request more within = shares_le request more within
requests_are_written UnitWeight request more within = weight_le request more within

-- shares of a request are in their range
again : (request : ℕ) → bounded (shares_of_request request) ≡ shares_of_request request
again request = omega arith

pub shares_weigh_as_requests : SharesWeighAsRequests
shares_weigh_as_requests = record {
  linear = λ request weight weighs. weighs;
  logarithmic = λ request weight weighs.
      subst (λ (shares : ℕ). IsLogarithmicWeight shares weight) (sym (again request)) weighs;
}
