-- The owners before the place are woken.
use Rattle.std.proofs.Common.{◌≡◌}
use Rattle.bw_lend.specs.declared.task.Task.TheVariants.{ToWakeFrom}
use Rattle.bw_lend.specs.Parts.{IsTable}
use Rattle.bw_lend.proofs.visits.wake_all.Given as goal

abbrev pub invariant-loop-place : goal.invariant-loop-place
invariant-loop-place g l = record {
  table : IsTable (g.V.Visit.state l.visit).table;
  task : (g.V.Visit.state l.visit).task ≡ ToWakeFrom l.place;
}
