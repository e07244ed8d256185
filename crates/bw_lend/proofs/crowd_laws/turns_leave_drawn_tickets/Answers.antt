-- The law is proved of rounds of turns.
use Rattle.bw_lend.proofs.TurnsLed.{turns_leave_drawn_tickets as law}
use Rattle.bw_lend.proofs.crowd_laws.turns_leave_drawn_tickets.Goals as goal

pub returns : goal.returns
returns c = law
