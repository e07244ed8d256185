-- The goal of `takes` that is answered by hand.
use Rattle.std.proofs.Common.{arith}
use Rattle.bw_split.specs.Levels.{taken}
use Rattle.bw_questions.proofs.from_root.level.takes.Goals as goal

pub returns : goal.returns
unfolding taken
returns c = omega (arith, c.min.ensures)
