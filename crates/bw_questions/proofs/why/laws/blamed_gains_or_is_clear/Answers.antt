-- The goal of `blamed_gains_or_is_clear`, answered by its lemma.
use Rattle.bw_questions.proofs.Help.{gains_or_clear}
use Rattle.bw_questions.proofs.why.laws.blamed_gains_or_is_clear.Goals as goal

pub returns : goal.returns
returns c = gains_or_clear c.limit_gives_or_lets_go.ensures
