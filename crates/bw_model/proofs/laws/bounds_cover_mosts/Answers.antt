-- The goals of `bounds_cover_mosts` that are answered by hand.
use Rattle.bw_model.proofs.plan.BoundsCover.{bounds_cover}
use Rattle.bw_model.proofs.laws.bounds_cover_mosts.Goals as goal

pub returns : goal.returns
returns c = bounds_cover
