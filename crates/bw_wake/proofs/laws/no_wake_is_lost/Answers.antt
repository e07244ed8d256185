-- No wake-up is lost.
use Rattle.bw_wake.proofs.RunSound.{no_wake_is_lost}
use Rattle.bw_wake.proofs.laws.no_wake_is_lost.Goals as goal

pub returns : goal.returns
returns c = no_wake_is_lost
