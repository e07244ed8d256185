-- The goals of `leaf_asks_for_its_waiting` that are answered by hand.
use Rattle.bw_laws.proofs.LeafLemmas.{leaf}
use Rattle.bw_laws.proofs.readings.leaf_asks_for_its_waiting.Goals as goal

pub returns : goal.returns
returns c = leaf
