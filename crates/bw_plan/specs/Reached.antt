-- A plan that has come to a depth.
use Rattle.std.specs.Prelude.{ℕ, ◌<◌, List, Vec, length}
use Rattle.std.specs.declared.alloc.Global.{Global}
use Rattle.bw_model.specs.Demand.{AreMaxTotals}
use Rattle.bw_model.specs.Groups.{Groups}
use Rattle.bw_demand.specs.ByDepth.{AreByDepth}
use Rattle.bw_plan.specs.Shared.{IsPlanning, is_above}

-- the groups above a depth that rows have share out what they have, and the others have nothing yet
pub record IsReached (groups : Groups) (most : List ℕ) (lists : List (Vec ℕ Global)) (d : ℕ)
    (amounts : List ℕ) : Type 0 where
  pub mosts : AreMaxTotals groups most
  pub depths : AreByDepth groups.rows lists
  pub depth : d < length lists
  pub planning : IsPlanning groups most (is_above groups.rows d) amounts
