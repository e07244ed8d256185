-- The law is proved of the protocol.
use Rattle.bw_lend.proofs.CrowdGoesOn.{at_most_one_is_inside as law}
use Rattle.bw_lend.proofs.crowd_laws.at_most_one_is_inside.Goals as goal

pub returns : goal.returns
returns c = law
