-- The tests of the premises pass exactly where they hold.
use Rattle.dispatch.proofs.Fair.{premises_are_told}
use Rattle.dispatch.proofs.laws.premises_are_told.Goals as goal

pub returns : goal.returns
returns c = premises_are_told
