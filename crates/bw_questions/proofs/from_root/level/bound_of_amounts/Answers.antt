-- The goal of `bound_of_amounts` that is answered by hand.
use Rattle.std.proofs.Common.{◌+◌, ◌-◌, ◌/◌, ◌≤◌, arith}
use Rattle.bw_questions.proofs.Levels.{none_at}
use Rattle.bw_questions.proofs.Meetings.{can_less}
use Rattle.bw_questions.proofs.from_root.level.bound_of_amounts.Goals as goal

pub loop-low-preserved-then-take_more : goal.loop-low-preserved-then-take_more
loop-low-preserved-then-take_more c =
    let middle = c.loop-low.low + (c.loop-low.high - c.loop-low.low) / 2 in
    let within : middle ≤ c.args.limit =
    omega (arith, c.loop-low.invariant.most, c.loop-low-test.true) in
    record {
      after = omega (arith, c.loop-low.invariant.after);
      in_order = omega (arith, c.loop-low-test.true);
      most = c.loop-low.invariant.most;
      below = λ less first before. none_at middle c.args.floors.now c.args.tops.now
          c.args.most.now c.args.needs.now c.in-Some.level c.requires.within
          (can_less c.args.limit c.args.floors.now c.args.most.now c.requires.can middle within)
          c.in-Some.ensures.1.0 c.in-Some.ensures.1.1 c.in-Some.ensures.1.2
          (c.take_more.ensures c.if-take_more.true) less (omega (arith, before));
    }
