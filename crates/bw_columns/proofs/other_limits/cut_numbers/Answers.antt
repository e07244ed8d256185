-- The goals of `cut_numbers` that are answered by hand.
use Rattle.std.proofs.Common.{rules}
use Rattle.bw_columns.specs.OtherLimits.{cut_number}
use Rattle.bw_columns.proofs.Turns.{map_more}
use Rattle.bw_columns.proofs.other_limits.cut_numbers.Goals as goal

pub loop-h-preserved : goal.loop-h-preserved
loop-h-preserved c =
    search (map_more (cut_number c.args.instance.now c.args.limits.now) c.loop-h.h, rules)
