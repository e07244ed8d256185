-- A lead over one that waits throughout is due, but for a bound.
use Rattle.dispatch.proofs.Beside.{lead_is_due}
use Rattle.dispatch.proofs.laws.lead_is_due.Goals as goal

pub returns : goal.returns
returns c = lead_is_due
