-- The goals of `pod_amount_is_one` that are answered by hand.
use Rattle.bw_owned.proofs.PodGrowth.{amounts_grow}
use Rattle.bw_owned.proofs.laws.pod_amount_is_one.Goals as goal

pub returns-clause-grow : goal.returns-clause-grow
returns-clause-grow c = amounts_grow
