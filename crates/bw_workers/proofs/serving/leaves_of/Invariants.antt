-- The list has the leaves of the rows that were looked at.
use Rattle.std.proofs.Common.{◌≡◌, ◌≤◌, length, vec_capacity}
use Rattle.bw_model.specs.declared.limits.TheConstants.{MAX_GROUPS}
use Rattle.bw_workers.specs.Rounds.{leaves_below}
use Rattle.bw_workers.proofs.serving.leaves_of.Given as goal

abbrev pub invariant-loop-row : goal.invariant-loop-row
invariant-loop-row l = record {
  rows : l.rows ≡ length l.instance.rows;
  few : l.rows ≤ MAX_GROUPS;
  so_far : length l.leaves.items ≤ l.row;
  room : l.rows ≤ vec_capacity l.leaves;
  leaves : l.leaves.items ≡ leaves_below l.instance.rows l.row;
}
