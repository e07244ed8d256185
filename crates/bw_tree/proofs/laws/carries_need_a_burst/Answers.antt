-- The goals of `carries_need_a_burst` that are answered by hand.
use Rattle.bw_tree.proofs.BandwidthLemmas.{limits_are_quotas, carries_unseen, no_burst_stays}
use Rattle.bw_tree.proofs.laws.carries_need_a_burst.Goals as goal

pub returns : goal.returns
returns c = record { limits = limits_are_quotas; unseen = carries_unseen; stays = no_burst_stays }
