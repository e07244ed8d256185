-- What stands at each turn of the loop in `piece_of`.
use Rattle.std.proofs.Common.{◌≡◌, ◌*◌, ◌≤◌, take}
use Rattle.bw_model.specs.declared.limits.TheConstants.{MAX_GROUPS}
use Rattle.bw_plan.specs.Pieces.{sharers_of_all}
use Rattle.bw_plan.proofs.by_depth.piece_of.Given as goal

abbrev pub invariant-loop-g : goal.invariant-loop-g
invariant-loop-g l = record {
  added : l.split_among ≡ sharers_of_all l.instance.rows (take l.g-index l.groups);
  small : l.split_among ≤ l.g-index * MAX_GROUPS;
}
