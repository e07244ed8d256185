-- The goals of `parts_are_within` that are answered by hand.
use Rattle.bw_laws.proofs.PartLemmas.{parts}
use Rattle.bw_laws.proofs.parts.parts_are_within.Goals as goal

pub returns : goal.returns
returns c = parts
