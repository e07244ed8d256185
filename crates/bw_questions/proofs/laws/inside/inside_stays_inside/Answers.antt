-- The goal of `inside_stays_inside`, answered by its lemma.
use Rattle.bw_questions.proofs.changes.InsideLaw.{inside_stays}
use Rattle.bw_questions.proofs.laws.inside.inside_stays_inside.Goals as goal

pub returns : goal.returns
returns c = inside_stays
