-- The seat of the table has what it had before, and looks for one more to help.
use Rattle.std.proofs.Common.{◌≡◌, ◌<◌}
use Rattle.bw_lend.specs.declared.task.Task.TheVariants.{ToPeek}
use Rattle.bw_lend.specs.declared.table.TheConstants.{TICKETS}
use Rattle.bw_lend.proofs.helping.help.Given as goal

abbrev pub invariant-loop-nth : goal.invariant-loop-nth
invariant-loop-nth g l = record {
  table : l.token.table_id ≡ l.fn.token.table_id;
  same : l.token.me ≡ l.fn.token.me;
  visit : (g.V.Visit.state l.visit).table ≡ (g.V.Visit.state l.fn.visit).table;
  task : (g.V.Visit.state l.visit).task ≡ ToPeek;
  small : (g.V.Visit.state l.visit).ticket < TICKETS;
  later : 0 < (g.V.Visit.state l.visit).ticket;
}
