-- The law is proved of rounds of turns on both tables.
use Rattle.bw_lend.proofs.BothLed.{both_serve as law}
use Rattle.bw_lend.proofs.crowd_laws.both_tables_serve_drawn_tickets.Goals as goal

pub returns : goal.returns
returns g c = law g.row.M.Denot g.row.M-Call.Denot g.row.M-Reply.Denot
