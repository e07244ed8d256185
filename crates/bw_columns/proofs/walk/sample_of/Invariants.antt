-- What stands at each turn of the loop in `sample_of`.
use Rattle.bw_columns.specs.Walks.{IsUnderWay}
use Rattle.bw_columns.proofs.walk.sample_of.Given as goal

abbrev pub invariant-loop-walk : goal.invariant-loop-walk
invariant-loop-walk l =
    IsUnderWay l.asked.shape l.slice_us l.asked.rows l.mosts l.times l.fn.carries.items l.walk

abbrev pub decreases-loop-walk : goal.decreases-loop-walk
decreases-loop-walk l = l.walk.left
