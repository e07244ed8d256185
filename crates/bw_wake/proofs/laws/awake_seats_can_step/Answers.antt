-- A seat that is awake can make an event.
use Rattle.bw_wake.proofs.CanStep.{awake_seats_can_step}
use Rattle.bw_wake.proofs.laws.awake_seats_can_step.Goals as goal

pub returns : goal.returns
returns c = awake_seats_can_step
