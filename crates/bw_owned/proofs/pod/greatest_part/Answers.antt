-- The goals of `greatest_part` that are answered by hand.
use Rattle.std.proofs.Common.{◌-◌, ◌/◌, ◌≤◌, arith}
use Rattle.bw_owned.proofs.PodGrowth.{part_grows}
use Rattle.bw_owned.proofs.pod.greatest_part.Goals as goal

pub loop-low-preserved-then-amount_with-most-2 : goal.loop-low-preserved-then-amount_with-most-2
loop-low-preserved-then-amount_with-most-2 c =
    let kept = c.loop-low.invariant in
    let range = kept.range in
    let apart = c.loop-low-test.true in
    let over = c.if-amount_with-most-2.true in
    let most = c.from-most.ensures in
    let middle = c.loop-low.high - (c.loop-low.high - c.loop-low.low) / 2 in
    record {
      order = omega (arith, apart);
      range = omega (arith, range);
      fits = kept.fits;
      greatest = λ more above few amount is_amount.
          let grows : c.amount_with-in-loop-low.result ≤ amount =
          part_grows c.args.kinds.now c.args.amounts.now c.args.part middle more
          c.amount_with-in-loop-low.result amount c.requires.part (omega (arith, above))
          c.amount_with-in-loop-low.ensures.amount is_amount in
          omega (arith, grows, over, most);
    }

pub returns-clause-some : goal.returns-clause-some
returns-clause-some c =
    let kept = c.loop-low.invariant in
    let order = kept.order in
    let ended = c.loop-low-test.false in
    record {
      fits = kept.fits;
      greatest = λ more above few. kept.greatest more (omega (arith, above, order, ended)) few;
    }
