-- What stands at each turn of the loop in `plan_each_depth`.
use Rattle.std.proofs.Common.{◌-◌}
use Rattle.bw_plan.specs.Cost.{IsCounted}
use Rattle.bw_plan.specs.Shared.{IsPlanning, is_above}
use Rattle.bw_plan.proofs.by_depth.plan_each_depth.Given as goal

abbrev pub invariant-loop-below : goal.invariant-loop-below
invariant-loop-below g l = record {
  planning :
      IsPlanning l.instance l.most (is_above l.instance.rows (l.below - 1)) l.amounts.items;
  counted : IsCounted l.instance.rows (is_above l.instance.rows 0)
      (is_above l.instance.rows (l.below - 1)) l.fn.work l.work;
}
