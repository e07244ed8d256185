-- The figures of the rows so far.
use Rattle.bw_demand.proofs.FirstFigures.{AreFirstFigures}
use Rattle.bw_demand.proofs.row_figures.figures.Given as goal

abbrev pub invariant-loop-g : goal.invariant-loop-g
invariant-loop-g l = AreFirstFigures l.instance l.gathered.most.items l.g l.active.items
    l.active_weight.items l.withheld.items
