-- Each window of a run is served.
use Rattle.dispatch.proofs.Served.{windows_are_served}
use Rattle.dispatch.proofs.laws.windows_are_served.Goals as goal

pub returns : goal.returns
returns c = windows_are_served
