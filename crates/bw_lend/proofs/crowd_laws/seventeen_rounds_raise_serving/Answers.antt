-- The law is proved of the protocol.
use Rattle.bw_lend.proofs.CrowdRises.{seventeen_rounds_raise_serving as law}
use Rattle.bw_lend.proofs.crowd_laws.seventeen_rounds_raise_serving.Goals as goal

pub returns : goal.returns
returns c = law
