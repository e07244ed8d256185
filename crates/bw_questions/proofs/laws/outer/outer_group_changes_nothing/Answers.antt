-- The goal of `outer_group_changes_nothing`, answered by its lemma.
use Rattle.bw_questions.proofs.changes.OuterLaw.{outer_changes_nothing}
use Rattle.bw_questions.proofs.laws.outer.outer_group_changes_nothing.Goals as goal

pub returns : goal.returns
returns c = outer_changes_nothing
