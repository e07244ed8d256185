-- The goals of `lost_is_harm` that are answered by hand.
use Rattle.bw_owned.proofs.Judges.{lost_is_harm, half_is_lost}
use Rattle.bw_owned.proofs.laws.lost_is_harm.Goals as goal

pub returns-clause-harm : goal.returns-clause-harm
returns-clause-harm c = lost_is_harm

pub returns-clause-half : goal.returns-clause-half
returns-clause-half c = half_is_lost
