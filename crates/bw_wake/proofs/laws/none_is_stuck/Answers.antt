-- No state is stuck.
use Rattle.bw_wake.proofs.RunSound.{none_is_stuck}
use Rattle.bw_wake.proofs.laws.none_is_stuck.Goals as goal

pub returns : goal.returns
returns c = none_is_stuck
