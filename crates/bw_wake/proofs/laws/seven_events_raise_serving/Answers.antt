-- Seven events raise the ticket that is served.
use Rattle.bw_wake.proofs.Raising.{seven_events_raise_serving}
use Rattle.bw_wake.proofs.laws.seven_events_raise_serving.Goals as goal

pub returns : goal.returns
returns c = seven_events_raise_serving
