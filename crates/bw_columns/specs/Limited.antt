-- The groups that limit a host's total.
use Rattle.std.specs.Prelude.{◌≡◌, ℕ, ◌+◌, List, sum_by, unwrap_or}
use Rattle.bw_model.specs.Groups.{Groups, limit_of}
use Rattle.bw_model.specs.Allocation.{IsGreatestTotal}
use Rattle.bw_model.specs.Demand.{AreMaxTotals, limiting_groups, demand_outside}

-- the groups that limit, and the demands outside them: their limits and these add up to the
-- greatest total
pub record IsLimiting (groups : Groups) (listed : List ℕ) (rest : ℕ) : Type 0 where
  pub most : List ℕ
  pub mosts : AreMaxTotals groups most
  pub listed_are : listed ≡ limiting_groups groups most
  pub rest_is : rest ≡ demand_outside groups.rows listed
  pub greatest : IsGreatestTotal groups
      (sum_by (λ g. unwrap_or (limit_of groups g) 0) listed + rest)
