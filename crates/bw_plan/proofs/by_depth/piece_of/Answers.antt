-- The goals of `piece_of` that are answered by hand.
use Rattle.std.proofs.Common.{arith}
use Rattle.std.proofs.lemmas.List.Sums.{sum_by_more}
use Rattle.bw_plan.specs.Pieces.{sharers}
use Rattle.bw_plan.proofs.by_depth.piece_of.Goals as goal

pub loop-g-preserved : goal.loop-g-preserved
loop-g-preserved c =
    let one = sum_by_more (sharers c.args.instance.now.rows) c.args.groups.now c.loop-g.g-index 0
    c.loop-g-test.true in
    record {
      added = omega (arith, c.loop-g.invariant.added, c.sharers-split_among.ensures.is, one);
      small = omega (arith, c.loop-g.invariant.small, c.sharers-split_among.ensures.small);
    }
