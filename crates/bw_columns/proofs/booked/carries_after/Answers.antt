-- The goals of `carries_after` that are answered by hand.
use Rattle.std.proofs.Common.{rules}
use Rattle.bw_columns.specs.Booked.{carry_after}
use Rattle.bw_columns.proofs.Turns.{map_more}
use Rattle.bw_columns.proofs.booked.carries_after.Goals as goal

pub loop-g-preserved : goal.loop-g-preserved
loop-g-preserved c =
    search (map_more (carry_after c.args.instance.now c.args.drawn.now) c.loop-g.g, rules)
