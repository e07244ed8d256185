-- An event is refused exactly where the rule does not allow it.
use Rattle.dispatch.proofs.Exact.{refusal_is_exact}
use Rattle.dispatch.proofs.laws.refusal_is_exact.Goals as goal

pub returns : goal.returns
returns c = refusal_is_exact
