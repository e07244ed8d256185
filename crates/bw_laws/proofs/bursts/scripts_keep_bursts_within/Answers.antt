-- The goals of `scripts_keep_bursts_within` that are answered by hand.
use Rattle.bw_laws.proofs.BurstLemmas.{scripts_within}
use Rattle.bw_laws.proofs.bursts.scripts_keep_bursts_within.Goals as goal

pub returns : goal.returns
returns c = scripts_within
