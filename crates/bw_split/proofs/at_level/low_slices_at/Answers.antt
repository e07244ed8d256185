-- The goals of `low_slices_at` that are answered by hand.
use Rattle.std.proofs.Common.{rules}
use Rattle.bw_split.proofs.Takes.{low-apart}
use Rattle.bw_split.proofs.at_level.low_slices_at.Goals as goal

pub returns : goal.returns
returns c = search (rules, low-apart)
