-- The goals of `greatest_raise` that are answered by hand.
use Rattle.std.proofs.Common.{◌≡◌, ℕ, ◌+◌, List, subst, sym, ◌∙◌, arith}
use Rattle.bw_questions.specs.OtherLimits.{AreCuts, CanBeMet, raised_limits}
use Rattle.bw_questions.proofs.RaisedLimits.{none_above, raised_cuts}
use Rattle.bw_questions.proofs.other_limits.raise.greatest_raise.Goals as goal
use Rattle.bw_questions.proofs.other_limits.raise.greatest_raise.Goals.{then-branch, else-branch}

pub can_be_met-requires-clause-limits : goal.can_be_met-requires-clause-limits
can_be_met-requires-clause-limits c =
    subst (λ (xs : List ℕ). AreCuts c.args.instance.now c.args.goals.now xs)
    (sym (c.as_slice.ensures.value ∙ c.in_ok-raised.ensures))
    (raised_cuts c.args.instance.now c.args.goals.now c.args.limits.now c.args.only
    c.requires.limits (c.loop-met.met + c.min.result))

pub loop-met-preserved : goal.loop-met-preserved
loop-met-preserved c =
    let raised = raised_limits c.args.instance.now c.args.limits.now c.args.only in
    let tried : c.as_slice.result.now ≡ raised (c.loop-met.met + c.min.result) =
    c.as_slice.ensures.value ∙ c.in_ok-raised.ensures in
    elim c.if-branch.branch [
      | then-branch w ↦ record {
        no_lower = omega (arith, w.met-is, c.loop-met.invariant.no_lower);
        apart = omega (arith, w.met-is, w.over-is, c.min.ensures, c.loop-met-test.true);
        most = omega (arith, w.over-is, c.loop-met.invariant.most);
        can = subst (λ (level : ℕ). CanBeMet c.args.measure c.args.instance.now c.args.goals.now
            c.args.may.now (raised_limits c.args.instance.now c.args.limits.now c.args.only
            level)) (sym w.met-is)
            (subst (λ (xs : List ℕ). CanBeMet c.args.measure c.args.instance.now
            c.args.goals.now c.args.may.now xs) tried
            (c.in_ok-can_be_met.ensures.some w.if-branch.true));
        none = λ more from within.
            c.loop-met.invariant.none more (omega (arith, w.over-is, from)) within;
      }
      | else-branch w ↦ record {
        no_lower = omega (arith, w.met-is, c.loop-met.invariant.no_lower);
        apart = omega (arith, w.met-is, w.over-is, c.min.ensures, c.loop-met-test.true);
        most = omega (
          arith,
          w.over-is,
          c.loop-met.invariant.most,
          c.min.ensures,
          c.loop-met-test.true,
        );
        can = subst (λ (level : ℕ). CanBeMet c.args.measure c.args.instance.now c.args.goals.now
            c.args.may.now (raised_limits c.args.instance.now c.args.limits.now c.args.only
            level)) (sym w.met-is) c.loop-met.invariant.can;
        none = λ more from within can.
            none_above c.args.instance.now c.args.goals.now c.rows-rows.ensures.valid
            c.there_is_one_plan.ensures c.others_room_gives_nothing.ensures c.args.may.now
            c.args.measure c.args.limits.now c.requires.limits c.args.only
            (c.loop-met.met + c.min.result) more (omega (arith, w.over-is, from))
            (λ lesser. c.in_ok-can_be_met.ensures.none w.if-branch.false
            (subst (λ (xs : List ℕ). CanBeMet c.args.measure c.args.instance.now
            c.args.goals.now c.args.may.now xs) (sym tried) lesser)) can;
      }
    ]

pub returns : goal.returns
returns c = record {
  no_lower = c.loop-met.invariant.no_lower;
  no_higher = omega (arith, c.loop-met.invariant.apart, c.loop-met.invariant.most);
  met = c.loop-met.invariant.can;
  greatest = λ more above within.
      c.loop-met.invariant.none more (omega (arith, above, c.loop-met-test.false)) within;
}
