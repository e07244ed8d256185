-- The goal of `greater_demands_serve_no_more`, answered by its lemma.
use Rattle.bw_questions.proofs.changes.AskedLaw.{serve_no_more}
use Rattle.bw_questions.proofs.laws.asked.greater_demands_serve_no_more.Goals as goal

pub returns : goal.returns
returns c = serve_no_more
