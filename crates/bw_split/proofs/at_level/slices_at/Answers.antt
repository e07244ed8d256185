-- The goals of `slices_at` that are answered by hand.
use Rattle.std.proofs.Common.{rules}
use Rattle.bw_split.proofs.Takes.{taken-apart}
use Rattle.bw_split.proofs.at_level.slices_at.Goals as goal

pub returns : goal.returns
returns c = search (rules, taken-apart)
