-- No leaf gets far ahead of one that waits throughout.
use Rattle.dispatch.proofs.Leads.{lead_is_bounded}
use Rattle.dispatch.proofs.laws.lead_is_bounded.Goals as goal

pub returns : goal.returns
returns c = lead_is_bounded
