-- What stands at each turn of the loop in `limit_others`: the rows before it are raised in turn.
use Rattle.bw_questions.proofs.InTurn.{AreLimitedBefore}
use Rattle.bw_questions.proofs.other_limits.limit_others.Given as goal

abbrev pub invariant-loop-h : goal.invariant-loop-h
invariant-loop-h l = record {
  so_far : AreLimitedBefore l.measure l.instance l.goals l.may l.lowest l.limits.items l.h;
}
