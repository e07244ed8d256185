-- The goals of `cut_child_values` that are answered by hand.
use Rattle.std.proofs.Common.{length}
use Rattle.bw_plan.proofs.Shares.{all_below, children_within}
use Rattle.bw_plan.proofs.children.cut_child_values.Goals as goal

pub cut_values_at-requires-clause-places : goal.cut_values_at-requires-clause-places
cut_values_at-requires-clause-places c = all_below (length c.args.values.now) c.children.result.now
    (rw c.requires.one_each
    (children_within c.args.instance.now.rows c.args.g c.children.result.now
    c.children.ensures))
