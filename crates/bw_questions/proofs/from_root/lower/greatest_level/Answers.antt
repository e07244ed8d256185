-- The goals of `greatest_level` that are answered by hand.
use Rattle.std.proofs.Common.{◌+◌, ◌-◌, ◌/◌, arith}
use Rattle.bw_questions.proofs.LoweredWeights.{met_below}
use Rattle.bw_questions.proofs.from_root.lower.greatest_level.Goals as goal

pub loop-met-preserved : goal.loop-met-preserved
loop-met-preserved c = record {
  no_lower = c.loop-met.invariant.no_lower;
  apart = omega (arith, c.loop-met-test.true);
  most = omega (arith, c.loop-met.invariant.most, c.loop-met-test.true);
  can = c.loop-met.invariant.can;
  none = λ more from within can.
      c.in_ok-can_be_met_at.ensures.none c.if-branch.false
      (met_below c.args.measure c.args.instance.now c.rows-rows.ensures.valid
      c.args.goals.now c.args.may.now c.there_is_one_plan.ensures
      c.others_weights_give_nothing.ensures
      (c.loop-met.met + (c.loop-met.over - c.loop-met.met) / 2) more
      (omega (arith, c.loop-met.invariant.no_lower)) from can);
}

pub returns : goal.returns
returns c = record {
  no_lower = c.loop-met.invariant.no_lower;
  no_higher = omega (arith, c.loop-met.invariant.apart, c.loop-met.invariant.most);
  met = c.loop-met.invariant.can;
  greatest = λ more above within.
      c.loop-met.invariant.none more (omega (arith, above, c.loop-met-test.false)) within;
}
