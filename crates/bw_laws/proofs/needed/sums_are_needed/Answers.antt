-- The goals of `sums_are_needed` that are answered by hand.
use Rattle.bw_laws.proofs.NeededLemmas.{sums}
use Rattle.bw_laws.proofs.needed.sums_are_needed.Goals as goal

pub returns : goal.returns
returns c = sums
