-- The law is proved of rounds of accesses to both tables.
use Rattle.bw_lend.proofs.BothAccesses.{accesses_serve as law}
use Rattle.bw_lend.proofs.crowd_laws.accesses_serve_drawn_tickets.Goals as goal

pub returns : goal.returns
returns g c = law g.row.M.Denot g.row.M-Call.Denot g.row.M-Reply.Denot
