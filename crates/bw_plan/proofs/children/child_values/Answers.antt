-- The goals of `child_values` that are answered by hand.
use Rattle.std.proofs.Common.{length}
use Rattle.bw_plan.proofs.Shares.{all_below, children_within}
use Rattle.bw_plan.proofs.children.child_values.Goals as goal

pub values_at-requires : goal.values_at-requires
values_at-requires c = all_below (length c.args.values.now) c.children.result.now
    (rw c.requires.one_each
    (children_within c.args.instance.now.rows c.args.g c.children.result.now
    c.children.ensures))
