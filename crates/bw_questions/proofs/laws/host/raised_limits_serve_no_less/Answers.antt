-- The goal of `raised_limits_serve_no_less`, answered by its lemma.
use Rattle.bw_questions.proofs.changes.HostLaws.{serve_no_less}
use Rattle.bw_questions.proofs.laws.host.raised_limits_serve_no_less.Goals as goal

pub returns : goal.returns
returns c = serve_no_less
