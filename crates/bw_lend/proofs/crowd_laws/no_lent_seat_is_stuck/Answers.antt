-- The law is proved of the protocol.
use Rattle.bw_lend.proofs.CrowdGoesOn.{none_is_stuck as law}
use Rattle.bw_lend.proofs.crowd_laws.no_lent_seat_is_stuck.Goals as goal

pub returns : goal.returns
returns c = law
