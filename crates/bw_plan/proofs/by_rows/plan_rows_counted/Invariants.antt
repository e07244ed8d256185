-- What stands at each turn of the loop in `plan_rows_counted`.
use Rattle.bw_plan.specs.Cost.{IsCounted}
use Rattle.bw_plan.specs.Shared.{IsPlanning}
use Rattle.bw_plan.proofs.Shares.{rows_before}
use Rattle.bw_plan.proofs.by_rows.plan_rows_counted.Given as goal

abbrev pub invariant-loop-g : goal.invariant-loop-g
invariant-loop-g l = record {
  planning : IsPlanning l.instance l.gathered.most.items (rows_before l.g) l.amounts.items;
  counted : IsCounted l.instance.rows (rows_before 0) (rows_before l.g) l.fn.work l.work;
}
