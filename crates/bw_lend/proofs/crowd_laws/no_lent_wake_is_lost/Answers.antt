-- The law is proved of the protocol.
use Rattle.bw_lend.proofs.CrowdGoesOn.{no_wake_is_lost as law}
use Rattle.bw_lend.proofs.crowd_laws.no_lent_wake_is_lost.Goals as goal

pub returns : goal.returns
returns c = law
