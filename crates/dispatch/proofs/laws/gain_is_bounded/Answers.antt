-- Neither of two leaves that wait throughout gains far on the other.
use Rattle.dispatch.proofs.Gains.{gain_is_bounded}
use Rattle.dispatch.proofs.laws.gain_is_bounded.Goals as goal

pub returns : goal.returns
returns c = gain_is_bounded
