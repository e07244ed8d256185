-- The goals of `added_up` that are answered by hand.
use Rattle.std.proofs.Common.{rules}
use Rattle.bw_columns.specs.Tallies.{plus, repeated, cut_all, tally_in}
use Rattle.bw_columns.proofs.Turns.{map_more}
use Rattle.bw_columns.proofs.tally.added_up.Goals as goal

pub loop-g-preserved : goal.loop-g-preserved
loop-g-preserved c =
    search (
      map_more
          (λ g. cut_all (plus (tally_in c.args.sums.now g)
          (repeated c.args.times (tally_in c.args.more.now g)))) c.loop-g.g,
      rules,
    )
