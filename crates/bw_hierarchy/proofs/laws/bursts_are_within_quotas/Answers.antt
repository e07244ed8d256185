-- The goals of `bursts_are_within_quotas` that are answered by hand.
use Rattle.bw_hierarchy.proofs.BurstLemmas.{calls_within}
use Rattle.bw_hierarchy.proofs.laws.bursts_are_within_quotas.Goals as goal

pub returns : goal.returns
returns c = calls_within
