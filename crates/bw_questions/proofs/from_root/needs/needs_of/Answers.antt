-- The goals of `needs_of` that are answered by hand.
use Rattle.std.proofs.Common.{◌-◌, ◌<◌, None, Some, length, arith, ap, ◌∙◌}
use Rattle.std.proofs.lemmas.List.{length-set}
use Rattle.bw_questions.specs.Passes.{IsLeastThat, Suffices}
use Rattle.bw_questions.proofs.AtGroup.{need_set, needs_below}
use Rattle.bw_questions.proofs.from_root.needs.needs_of.Goals as goal

pub need_of-requires-clause-needs : goal.need_of-requires-clause-needs
need_of-requires-clause-needs c =
    rw c.as_slice.ensures.value
    (needs_below c.args.instance.now c.rows-count.ensures.valid c.args.tops.now c.args.most.now
    c.args.goals.now c.requires c.loop-g.needs.items (c.loop-g.g - 1)
    c.loop-g.invariant.one_each
    (λ h after h_in. c.loop-g.invariant.known h (omega (arith, after)) h_in))

pub loop-g-preserved : goal.loop-g-preserved
loop-g-preserved c =
    let found : IsLeastThat (Suffices c.args.instance.now c.args.tops.now c.args.most.now
    c.args.goals.now c.loop-g.needs.items (c.loop-g.g - 1)) (Some c.in-Some.amount) =
    rw (c.as_slice.ensures.value, c.in-Some.is) at c.in_ok-need.ensures in
    let below : c.loop-g.g - 1 < length c.args.instance.now.rows =
    omega (arith, c.loop-g.auto.g, c.loop-g-test.true, ap length c.rows-count.ensures.rows) in
    record {
      one_each = length-set c.loop-g.needs.items (c.loop-g.g - 1) c.in-Some.amount
          ∙ c.loop-g.invariant.one_each;
      known = need_set c.args.instance.now c.rows-count.ensures.valid c.args.tops.now
          c.args.most.now c.args.goals.now c.requires c.loop-g.needs.items (c.loop-g.g - 1)
          c.in-Some.amount below c.loop-g.invariant.one_each
          (λ h after h_in. c.loop-g.invariant.known h (omega (arith, after)) h_in) found;
    }

pub returns-in-None : goal.returns-in-None
returns-in-None c =
    let none : IsLeastThat (Suffices c.args.instance.now c.args.tops.now c.args.most.now
    c.args.goals.now c.loop-g.needs.items (c.loop-g.g - 1)) None =
    rw (c.as_slice.ensures.value, c.in-None.is) at c.in_ok-need.ensures in
    record {
      within = omega (
        arith,
        c.loop-g.auto.g,
        c.loop-g-test.true,
        ap length c.rows-count.ensures.rows,
      );
      needs = c.loop-g.needs.items;
      later = λ h after h_in. c.loop-g.invariant.known h (omega (arith, after)) h_in;
      never = none;
    }

pub returns : goal.returns
returns c = record {
  one_each = c.loop-g.invariant.one_each;
  each = λ h h_in. c.loop-g.invariant.known h (omega (arith, c.loop-g-test.false)) h_in;
}
