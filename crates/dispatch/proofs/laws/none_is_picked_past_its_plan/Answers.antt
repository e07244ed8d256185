-- None that used its plan is picked while one short of it waits.
use Rattle.dispatch.proofs.Plans.{none_is_picked_past_its_plan}
use Rattle.dispatch.proofs.laws.none_is_picked_past_its_plan.Goals as goal

pub returns : goal.returns
returns c = none_is_picked_past_its_plan
