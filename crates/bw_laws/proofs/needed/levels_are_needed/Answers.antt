-- The goals of `levels_are_needed` that are answered by hand.
use Rattle.bw_laws.proofs.NeededLemmas.{levels}
use Rattle.bw_laws.proofs.needed.levels_are_needed.Goals as goal

pub returns : goal.returns
returns c = levels
