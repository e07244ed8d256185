-- What stands at each turn of the loop in `level_of`.
use Rattle.bw_split.proofs.LastMarks.{LastOf}
use Rattle.bw_split.proofs.level.level_of.Given as goal

abbrev pub invariant-loop-i : goal.invariant-loop-i
invariant-loop-i l = LastOf l.weights l.parts l.i l.best
