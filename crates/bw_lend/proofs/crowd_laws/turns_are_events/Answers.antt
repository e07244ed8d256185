-- The law is proved of turns.
use Rattle.bw_lend.proofs.TurnsLed.{turns_are_events as law}
use Rattle.bw_lend.proofs.crowd_laws.turns_are_events.Goals as goal

pub returns : goal.returns
returns c = law
