-- The goal of `idle_group_changes_nothing`, answered by its lemma.
use Rattle.bw_questions.proofs.changes.IdleLaw.{idle_changes_nothing}
use Rattle.bw_questions.proofs.laws.idle.idle_group_changes_nothing.Goals as goal

pub returns : goal.returns
returns c = idle_changes_nothing
