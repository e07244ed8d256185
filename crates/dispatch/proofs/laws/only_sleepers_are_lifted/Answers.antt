-- Only sleepers are lifted.
use Rattle.dispatch.proofs.Lifts.{is_lifted_only_from_sleep, lift_is_at_most_the_least}
use Rattle.dispatch.proofs.laws.only_sleepers_are_lifted.Goals as goal

pub returns-clause-sleepers : goal.returns-clause-sleepers
returns-clause-sleepers c = is_lifted_only_from_sleep

pub returns-clause-least : goal.returns-clause-least
returns-clause-least c = lift_is_at_most_the_least
