-- The goals of `narrow_child_weights` that are answered by hand.
use Rattle.std.proofs.Common.{length}
use Rattle.bw_plan.proofs.Shares.{all_below, children_within}
use Rattle.bw_plan.proofs.children.narrow_child_weights.Goals as goal

pub narrow_weights_of-requires-clause-places : goal.narrow_weights_of-requires-clause-places
narrow_weights_of-requires-clause-places c = all_below (length c.rows.result.now) c.children.result.now
    (rw c.rows.ensures.rows
    (children_within c.args.instance.now.rows c.args.g c.children.result.now
    c.children.ensures))
