-- The goal of `only_the_blamed_limit_helps`, answered by its lemma.
use Rattle.bw_questions.proofs.Help.{only_blamed_helps}
use Rattle.bw_questions.proofs.why.laws.only_the_blamed_limit_helps.Goals as goal

pub returns : goal.returns
returns c = only_blamed_helps c.no_more_below.ensures
