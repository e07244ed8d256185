-- The goals of `plan_of` that are answered by hand.
use Rattle.std.proofs.Common.{subst}
use Rattle.bw_model.specs.Groups.{Groups}
use Rattle.bw_model.specs.Plan.{IsPlan}
use Rattle.bw_columns.specs.Asked.{shape_of, table_of}
use Rattle.bw_columns.proofs.Asked.{planned_length}
use Rattle.bw_columns.proofs.planned.plan_of.Goals as goal

pub returns-clause-long : goal.returns-clause-long
returns-clause-long c =
    planned_length (shape_of c.args.request.now.host) (table_of c.args.request.now.columns)
    c.in_ok-plan.field-0.amounts.items
    (subst (λ (g : Groups). IsPlan g c.in_ok-plan.field-0.amounts.items)
    c.in_ok-instance.ensures.groups c.in_ok-plan.ensures)
