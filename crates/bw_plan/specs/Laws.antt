-- The law that an instance has one plan.
use Rattle.std.specs.Prelude.{◌≡◌, List, ℕ}
use Rattle.bw_model.specs.Groups.{Groups, IsInstance}
use Rattle.bw_model.specs.Plan.{IsPlan}

-- one plan of an instance, and no other
pub record HasOnePlan (groups : Groups) : Type 0 where
  pub amounts : List ℕ
  pub plan : IsPlan groups amounts
  pub alone : (others : List ℕ) → IsPlan groups others → others ≡ amounts

abbrev pub ThereIsOnePlan : Type 0
ThereIsOnePlan = (groups : Groups) → IsInstance groups → HasOnePlan groups
