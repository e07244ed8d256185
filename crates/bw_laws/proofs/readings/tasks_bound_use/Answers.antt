-- The goals of `tasks_bound_use` that are answered by hand.
use Rattle.bw_laws.proofs.HungerLemmas.{use_bound}
use Rattle.bw_laws.proofs.readings.tasks_bound_use.Goals as goal

pub returns : goal.returns
returns c = use_bound
