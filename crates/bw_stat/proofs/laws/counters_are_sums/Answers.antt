-- The goals of `counters_are_sums` that are answered by hand.
use Rattle.bw_stat.proofs.SumLemmas.{are_sums}
use Rattle.bw_stat.proofs.laws.counters_are_sums.Goals as goal

pub returns : goal.returns
returns c = are_sums
