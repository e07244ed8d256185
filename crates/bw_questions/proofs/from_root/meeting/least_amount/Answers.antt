-- The goals of `least_amount` that are answered by hand.
use Rattle.std.proofs.Common.{arith, inl, inr, sym, ◌∙◌, true≢false}
use Rattle.std.proofs.lemmas.Bool.{cases_lt}
use Rattle.bw_questions.proofs.Levels.{part_le_sum}
use Rattle.bw_questions.proofs.Meetings.{too_few}
use Rattle.bw_questions.proofs.from_root.meeting.least_amount.Goals as goal

pub returns-then-not-fits_in : goal.returns-then-not-fits_in
returns-then-not-fits_in c = λ less first within.
    too_few c.args.floors.now c.args.tops.now c.args.most.now c.args.needs.now c.args.limit
    c.requires.within c.requires.can.one_each
    (λ fit. true≢false (sym (c.fits_in.ensures.1 fit) ∙ c.if-not-fits_in.true)) less within

pub bound_of_amounts-requires-clause-small : goal.bound_of_amounts-requires-clause-small
bound_of_amounts-requires-clause-small c = λ k below.
    omega (
      arith,
      part_le_sum c.args.needs.now k below,
      c.fits_in.ensures.0 c.if-not-fits_in.false,
      c.requires.can.small,
    )

pub loop-low-init : goal.loop-low-init
loop-low-init c = record {
  after = omega (arith, c.max-low.ensures);
  in_order =
      omega (arith, c.if-first-limit.false, c.max-low.ensures, c.bound_of_amounts.ensures.in_range);
  most = omega arith;
  near = omega arith;
  below = λ less first before. elim (cases_lt less c.bound_of_amounts.result) [
    | inl bounded ↦ c.bound_of_amounts.ensures.below less first bounded
    | inr past ↦
        c.in_ok-can_meet.ensures.none c.if-branch.false less
        (omega (arith, before, past, c.max-low.ensures))
  ];
  above = λ within. let clash : ⊥ = omega (arith, within) in absurd clash;
}

pub loop-low-preserved : goal.loop-low-preserved
loop-low-preserved c = record {
  after = omega (arith, c.loop-low.invariant.after, c.min-middle.ensures);
  in_order = omega (arith, c.loop-low-test.true, c.min-middle.ensures);
  most = c.loop-low.invariant.most;
  near = omega (arith, c.min-reach.ensures);
  below = λ less first before.
      c.in_ok-can_meet-2.ensures.none c.if-branch-2.false less (omega (arith, before));
  above = c.loop-low.invariant.above;
}

pub returns-then-low-limit : goal.returns-then-low-limit
returns-then-low-limit c = λ less first within.
    c.loop-low.invariant.below less first (omega (arith, within, c.if-low-limit.true))
