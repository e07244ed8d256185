-- The law is proved of turns on both tables.
use Rattle.bw_lend.proofs.BothLed.{both_are_events as law}
use Rattle.bw_lend.proofs.crowd_laws.both_tables_are_events.Goals as goal

pub returns : goal.returns
returns g c = law g.row.M.Denot g.row.M-Call.Denot g.row.M-Reply.Denot
