-- The goals of `next_marks_are_needed` that are answered by hand.
use Rattle.bw_laws.proofs.NeededLemmas.{next_marks}
use Rattle.bw_laws.proofs.needed.next_marks_are_needed.Goals as goal

pub returns : goal.returns
returns c = next_marks
