-- The goals of `least` that are answered by hand.
use Rattle.std.proofs.Common.{ℕ, ◌+◌, ◌-◌, ◌/◌, ◌<◌, ◌≤◌, arith, true≢false, sym, ◌∙◌}
use Rattle.std.proofs.Common.{subst}
use Rattle.bw_model.specs.Groups.{Groups}
use Rattle.bw_questions.specs.Change.{changed, greatest_of}
use Rattle.bw_questions.specs.Least.{Reaches}
use Rattle.bw_questions.specs.Plans.{halvings_of}
use Rattle.bw_questions.proofs.Halving.{lower_half, upper_half, halved, first_width, some_value}
use Rattle.bw_questions.proofs.least.least.Goals as goal
use Rattle.bw_questions.proofs.least.least.Goals.{then-branch, else-branch}

pub loop-low-preserved : goal.loop-low-preserved
loop-low-preserved c =
    let Holds : ℕ → Type 0 =
    λ v. Reaches (changed c.args.instance.now c.args.setting c.args.group v) c.args.group
    c.args.amount in
    let middle : ℕ = c.loop-low.low + (c.loop-low.high - c.loop-low.low) / 2 in
    let after : c.loop-low.low ≤ middle = omega arith in
    let before : middle < c.loop-low.high = omega (arith, c.loop-low-test.true) in
    let narrower : c.if-branch.high - c.if-branch.low ≤ (c.loop-low.high - c.loop-low.low) / 2 =
    elim c.if-branch.branch [
      | then-branch w ↦ omega (arith, w.low-is, w.high-is)
      | else-branch w ↦ omega (arith, w.low-is, w.high-is)
    ] in
    let fewer = halved (c.loop-low.high - c.loop-low.low) (c.if-branch.high - c.if-branch.low)
    c.loop-low.plans.steps (c.args.plans.now.steps + halvings_of c.args.setting)
    (omega (arith, c.loop-low-test.true)) c.loop-low.invariant.halved narrower
    c.loop-low.invariant.few in
    record {
      gap = elim c.if-branch.branch [
        | then-branch w ↦
            lower_half Holds (greatest_of c.args.setting) c.loop-low.low c.loop-low.high middle
            c.loop-low.invariant.gap after before c.if-branch.low c.if-branch.high w.low-is w.high-is
            (rw c.in_ok-tried.ensures at (c.in_ok-reaches.ensures.reached.0 w.if-branch.true))
        | else-branch w ↦
            upper_half Holds (greatest_of c.args.setting) c.loop-low.low c.loop-low.high middle
            c.loop-low.invariant.gap after before c.requires.rises c.if-branch.low c.if-branch.high
            w.low-is w.high-is
            (λ holds. true≢false
            (sym (c.in_ok-reaches.ensures.reached.1
            (subst (λ (groups : Groups). Reaches groups c.args.group c.args.amount)
            (sym c.in_ok-tried.ensures) holds))
            ∙ w.if-branch.false))
      ];
      no_fewer = omega (arith, c.loop-low.invariant.no_fewer, c.reaches.ensures.plans);
      few = omega (arith, fewer.0, c.reaches.ensures.plans);
      halved = rw c.reaches.ensures.plans fewer.1;
      begun = λ same.
          let clash : ⊥ = omega (arith, same, c.loop-low.invariant.no_fewer, c.reaches.ensures.plans)
          in absurd clash;
    }

pub loop-low-init : goal.loop-low-init
loop-low-init c = record {
  gap = (
    omega arith,
    omega arith,
    omega (arith, c.greatest-greatest.ensures.value),
    λ v first less. let clash : ⊥ = omega (arith, first, less) in absurd clash,
    λ within. let clash : ⊥ = omega (arith, within, c.greatest-greatest.ensures.value) in absurd clash,
  );
  no_fewer = omega arith;
  few = omega arith;
  halved = first_width c.args.setting c.greatest-greatest.result c.args.plans.now.steps
      c.greatest-greatest.ensures.value;
  begun = λ _. omega (arith, some_value c.args.setting, c.greatest-greatest.ensures.value);
}

pub returns-in_err-reaches-clause-plans : goal.returns-in_err-reaches-clause-plans
returns-in_err-reaches-clause-plans c =
    let fewer = halved (c.loop-low.high - c.loop-low.low) 0
    c.loop-low.plans.steps (c.args.plans.now.steps + halvings_of c.args.setting)
    (omega (arith, c.loop-low-test.true)) c.loop-low.invariant.halved (omega arith)
    c.loop-low.invariant.few in
    record {
      no_fewer = omega (arith, c.loop-low.invariant.no_fewer, c.reaches.ensures.plans);
      most = omega (arith, fewer.0, c.reaches.ensures.plans);
    }
