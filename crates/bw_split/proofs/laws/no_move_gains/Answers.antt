-- A split is best where no move of one slice gains, and the other way round.
use Rattle.bw_split.proofs.Neighbours.{unmoved_is_best, best_is_unmoved}
use Rattle.bw_split.proofs.laws.no_move_gains.Goals as goal

pub returns-clause-best : goal.returns-clause-best
returns-clause-best c = unmoved_is_best

pub returns-clause-unmoved : goal.returns-clause-unmoved
returns-clause-unmoved c = best_is_unmoved
