-- The goals of `slices_cover_time` that are answered by hand.
use Rattle.bw_laws.proofs.SliceLemmas.{slices}
use Rattle.bw_laws.proofs.readings.slices_cover_time.Goals as goal

pub returns : goal.returns
returns c = slices
