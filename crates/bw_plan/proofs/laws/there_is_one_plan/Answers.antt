-- The goals of `there_is_one_plan` that are answered by hand.
use Rattle.bw_plan.proofs.Backward.{one_plan}
use Rattle.bw_plan.proofs.laws.there_is_one_plan.Goals as goal

pub returns : goal.returns
returns c = one_plan
