-- What a leaf is owed is bounded.
use Rattle.dispatch.proofs.Served.{owed_is_bounded}
use Rattle.dispatch.proofs.laws.owed_is_bounded.Goals as goal

pub returns : goal.returns
returns c = owed_is_bounded
