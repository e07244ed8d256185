-- The goals of `last_marks_are_needed` that are answered by hand.
use Rattle.bw_laws.proofs.NeededLemmas.{last_marks}
use Rattle.bw_laws.proofs.needed.last_marks_are_needed.Goals as goal

pub returns : goal.returns
returns c = last_marks
