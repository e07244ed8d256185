-- The law is proved of the protocol.
use Rattle.bw_lend.proofs.CrowdGoesOn.{awake_seats_can_step as law}
use Rattle.bw_lend.proofs.crowd_laws.awake_lent_seats_can_step.Goals as goal

pub returns : goal.returns
returns c = law
