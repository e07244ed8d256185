-- The goals of `tallies_of` that are answered by hand.
use Rattle.std.proofs.Common.{rules, slice_index}
use Rattle.bw_model.specs.Groups.{row_of}
use Rattle.bw_columns.specs.Tallies.{tally_of}
use Rattle.bw_columns.proofs.Turns.{map_more}
use Rattle.bw_columns.proofs.one_period.tallies_of.Goals as goal

pub loop-g-preserved : goal.loop-g-preserved
loop-g-preserved c =
    search (
      map_more
          (λ g. tally_of c.args.slice_us (row_of c.args.rows.now g)
          (row_of c.args.asked.now g).limit (slice_index c.args.wants.now g)
          (slice_index c.args.amounts.now g)) c.loop-g.g,
      rules,
    )
