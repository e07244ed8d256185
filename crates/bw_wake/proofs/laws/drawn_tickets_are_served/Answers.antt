-- Each drawn ticket is served in time.
use Rattle.bw_wake.proofs.RoundsRaise.{drawn_tickets_are_served}
use Rattle.bw_wake.proofs.laws.drawn_tickets_are_served.Goals as goal

pub returns : goal.returns
returns c = drawn_tickets_are_served
