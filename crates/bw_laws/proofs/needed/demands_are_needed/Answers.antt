-- The goals of `demands_are_needed` that are answered by hand.
use Rattle.bw_laws.proofs.NeededLemmas.{demands}
use Rattle.bw_laws.proofs.needed.demands_are_needed.Goals as goal

pub returns : goal.returns
returns c = demands
