-- The goals of `new_groups_count_nothing` that are answered by hand.
use Rattle.bw_laws.proofs.CounterLemmas.{new_groups}
use Rattle.bw_laws.proofs.counters.new_groups_count_nothing.Goals as goal

pub returns : goal.returns
returns c = new_groups
