-- The goals of `limits_are_needed` that are answered by hand.
use Rattle.bw_laws.proofs.NeededLemmas.{limits}
use Rattle.bw_laws.proofs.needed.limits_are_needed.Goals as goal

pub returns : goal.returns
returns c = limits
