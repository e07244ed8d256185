-- The goals of `everything_has_a_reason` that are answered by hand.
use Rattle.bw_laws.proofs.HungerLemmas.{everything}
use Rattle.bw_laws.proofs.readings.everything_has_a_reason.Goals as goal

pub returns : goal.returns
returns c = everything
