-- The ticket that is served goes on.
use Rattle.bw_wake.proofs.RunSound.{served_ticket_goes_on}
use Rattle.bw_wake.proofs.laws.served_ticket_goes_on.Goals as goal

pub returns : goal.returns
returns c = served_ticket_goes_on
