-- The goals of `takes` that are answered by hand.
use Rattle.std.proofs.Common.{rules}
use Rattle.bw_split.specs.Levels.{taken}
use Rattle.bw_split.proofs.at_level.takes.Goals as goal

pub returns : goal.returns
unfolding taken
returns c = search rules
