-- Each step is the event of that name.
use Rattle.bw_ticket.proofs.Followed.{steps_are_events}
use Rattle.bw_ticket.proofs.laws.steps_are_events.Goals as goal

pub returns : goal.returns
returns g c = steps_are_events g.row.M.Denot g.row.M-Call.Denot g.row.M-Reply.Denot
