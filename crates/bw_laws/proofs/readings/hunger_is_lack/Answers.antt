-- The goals of `hunger_is_lack` that are answered by hand.
use Rattle.bw_laws.proofs.HungerLemmas.{hunger}
use Rattle.bw_laws.proofs.readings.hunger_is_lack.Goals as goal

pub returns : goal.returns
returns c = hunger
