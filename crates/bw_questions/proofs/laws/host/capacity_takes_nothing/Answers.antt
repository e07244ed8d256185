-- The goal of `capacity_takes_nothing`, answered by its lemma.
use Rattle.bw_questions.proofs.changes.HostLaws.{capacity_takes_nothing}
use Rattle.bw_questions.proofs.laws.host.capacity_takes_nothing.Goals as goal

pub returns : goal.returns
returns c = capacity_takes_nothing
