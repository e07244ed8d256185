-- What stands at each turn of the loop in `bases_with`: the bases of the rows before it.
use Rattle.bw_settings.specs.Columns.{AreBases}
use Rattle.bw_settings.specs.Following.{follows_of}
use Rattle.bw_settings.specs.Several.{aims_of}
use Rattle.bw_settings.proofs.columns.bases_with.Given as goal

abbrev pub invariant-loop-h : goal.invariant-loop-h
invariant-loop-h l = record {
  so_far : AreBases l.instance.rows (follows_of l.following) (aims_of l.goals) l.numbers l.h
      l.bases.items;
}
