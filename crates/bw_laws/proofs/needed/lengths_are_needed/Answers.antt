-- The goals of `lengths_are_needed` that are answered by hand.
use Rattle.bw_laws.proofs.NeededLemmas.{lengths}
use Rattle.bw_laws.proofs.needed.lengths_are_needed.Goals as goal

pub returns : goal.returns
returns c = lengths
