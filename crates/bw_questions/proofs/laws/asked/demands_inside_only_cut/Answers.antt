-- The goal of `demands_inside_only_cut`, answered by its lemma.
use Rattle.bw_questions.proofs.changes.InsideDemands.{inside_only_cut}
use Rattle.bw_questions.proofs.laws.asked.demands_inside_only_cut.Goals as goal

pub returns : goal.returns
returns c = inside_only_cut
