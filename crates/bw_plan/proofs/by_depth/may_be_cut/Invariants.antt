-- What stands at each turn of the loop in `may_be_cut`.
use Rattle.std.proofs.Common.{◌*◌, ◌<◌}
use Rattle.bw_plan.specs.declared.by_depth.TheConstants.{PIECE_CHILDREN}
use Rattle.bw_plan.proofs.by_depth.may_be_cut.Given as goal

abbrev pub invariant-loop-g : goal.invariant-loop-g
invariant-loop-g l = l.sharing < 2 * PIECE_CHILDREN
