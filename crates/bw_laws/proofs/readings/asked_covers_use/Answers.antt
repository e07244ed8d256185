-- The goals of `asked_covers_use` that are answered by hand.
use Rattle.bw_laws.proofs.HungerLemmas.{asked}
use Rattle.bw_laws.proofs.readings.asked_covers_use.Goals as goal

pub returns : goal.returns
returns c = asked
