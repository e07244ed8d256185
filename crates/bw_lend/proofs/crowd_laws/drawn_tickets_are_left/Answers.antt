-- The law is proved of the protocol.
use Rattle.bw_lend.proofs.CrowdRises.{drawn_tickets_are_left as law}
use Rattle.bw_lend.proofs.crowd_laws.drawn_tickets_are_left.Goals as goal

pub returns : goal.returns
returns c = law
