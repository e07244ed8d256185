-- Eight rounds raise the ticket that is served.
use Rattle.bw_wake.proofs.RoundsRaise.{eight_rounds_raise_serving}
use Rattle.bw_wake.proofs.laws.eight_rounds_raise_serving.Goals as goal

pub returns : goal.returns
returns c = eight_rounds_raise_serving
