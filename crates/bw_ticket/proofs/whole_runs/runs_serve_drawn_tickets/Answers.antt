-- Rounds of turns serve each drawn ticket.
use Rattle.bw_ticket.proofs.RunsFollow.{runs_serve}
use Rattle.bw_ticket.proofs.whole_runs.runs_serve_drawn_tickets.Goals as goal

pub returns : goal.returns
returns g c = runs_serve g.row.M.Denot g.row.M-Call.Denot g.row.M-Reply.Denot
