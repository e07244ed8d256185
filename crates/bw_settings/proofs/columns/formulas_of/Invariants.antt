-- What stands at each turn of the loop in `formulas_of`: the formulas of the rows before it.
use Rattle.bw_settings.specs.Columns.{AreFormulas}
use Rattle.bw_settings.specs.Several.{aims_of}
use Rattle.bw_settings.proofs.columns.formulas_of.Given as goal

abbrev pub invariant-loop-h : goal.invariant-loop-h
invariant-loop-h l = record {
  so_far : AreFormulas l.instance.rows l.formulas (aims_of l.goals) l.k l.h l.those.items;
}
