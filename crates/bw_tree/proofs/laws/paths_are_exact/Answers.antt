-- The goals of `paths_are_exact` that are answered by hand.
use Rattle.bw_tree.proofs.WayLemmas.{inverse, names_unique}
use Rattle.bw_tree.proofs.laws.paths_are_exact.Goals as goal

pub returns : goal.returns
returns c = record { inverse = inverse; names = names_unique }
