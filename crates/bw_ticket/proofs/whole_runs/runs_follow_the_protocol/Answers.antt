-- Every run of the lock is one of the protocol.
use Rattle.bw_ticket.proofs.RunsFollow.{runs_follow}
use Rattle.bw_ticket.proofs.whole_runs.runs_follow_the_protocol.Goals as goal

pub returns : goal.returns
returns g c = runs_follow g.row.M.Denot g.row.M-Call.Denot g.row.M-Reply.Denot
