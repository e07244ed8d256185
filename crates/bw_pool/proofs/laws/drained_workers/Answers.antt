-- Drained workers leave the amounts, and so the plan.
use Rattle.bw_pool.proofs.Amounts.{drained_workers_draw_the_plan}
use Rattle.bw_pool.proofs.Drained.{drained_workers_draw_the_amounts}
use Rattle.bw_pool.proofs.laws.drained_workers.Goals as goal

pub returns-clause-amounts : goal.returns-clause-amounts
returns-clause-amounts c = drained_workers_draw_the_amounts

pub returns-clause-plan : goal.returns-clause-plan
returns-clause-plan c = drained_workers_draw_the_plan
