-- The goal of `limit_gives_or_lets_go`, answered by its lemma.
use Rattle.bw_questions.proofs.changes.RaisedLimit.{gives_or_lets_go}
use Rattle.bw_questions.proofs.laws.cut.limit_gives_or_lets_go.Goals as goal

pub returns : goal.returns
returns c = gives_or_lets_go
