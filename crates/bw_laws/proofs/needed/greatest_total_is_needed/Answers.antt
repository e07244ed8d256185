-- The goals of `greatest_total_is_needed` that are answered by hand.
use Rattle.bw_laws.proofs.NeededLemmas.{greatest_total}
use Rattle.bw_laws.proofs.needed.greatest_total_is_needed.Goals as goal

pub returns : goal.returns
returns c = greatest_total
