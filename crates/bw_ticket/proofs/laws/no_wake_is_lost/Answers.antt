-- No wake-up is lost.
use Rattle.bw_ticket.proofs.Sleepers.{no_wake_is_lost}
use Rattle.bw_ticket.proofs.laws.no_wake_is_lost.Goals as goal

pub returns : goal.returns
returns g c = no_wake_is_lost g.M.Machine.after g.M.Machine.answer
