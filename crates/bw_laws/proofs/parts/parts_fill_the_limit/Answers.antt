-- The goals of `parts_fill_the_limit` that are answered by hand.
use Rattle.bw_laws.proofs.PartLemmas.{filled}
use Rattle.bw_laws.proofs.parts.parts_fill_the_limit.Goals as goal

pub returns : goal.returns
returns c = filled
