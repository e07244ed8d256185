-- The goals of `has_one_each` that are answered by hand.
use Rattle.bw_stat.proofs.BookLemmas.{one_each}
use Rattle.bw_stat.proofs.laws.has_one_each.Goals as goal

pub returns : goal.returns
returns c = one_each
