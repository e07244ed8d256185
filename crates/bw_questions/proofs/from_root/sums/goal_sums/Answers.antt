-- The goals of `goal_sums` that are answered by hand.
use Rattle.std.proofs.Common.{◌≡◌, ◌-◌, ◌<◌, ◌∙◌, List, ℕ, length, arith, ap}
use Rattle.std.proofs.lemmas.List.{length-set}
use Rattle.bw_questions.proofs.GoalSums.{sum_at, sum_set}
use Rattle.bw_questions.proofs.from_root.sums.goal_sums.Goals as goal

pub loop-g-preserved : goal.loop-g-preserved
loop-g-preserved c =
    let rows = c.args.instance.now.rows in
    let below : c.loop-g.g - 1 < length rows =
    omega (arith, c.loop-g.auto.g, c.loop-g-test.true, ap length c.rows-count.ensures.rows) in
    let is : c.sum_of.result ≡ sum_at rows c.args.goals.now c.loop-g.sums.items (c.loop-g.g - 1) =
    c.sum_of.ensures
    ∙ ap (λ (xs : List ℕ). sum_at rows c.args.goals.now xs (c.loop-g.g - 1))
    c.as_slice.ensures.value in
    record {
      one_each = length-set c.loop-g.sums.items (c.loop-g.g - 1) c.sum_of.result
          ∙ c.loop-g.invariant.one_each;
      known = sum_set rows c.rows-count.ensures.valid.tree c.args.goals.now c.loop-g.sums.items
          (c.loop-g.g - 1) c.sum_of.result below c.loop-g.invariant.one_each is
          (λ h after h_in. c.loop-g.invariant.known h (omega (arith, after)) h_in);
    }

pub returns : goal.returns
returns c = record {
  one_each = c.loop-g.invariant.one_each;
  each = λ h h_in. c.loop-g.invariant.known h (omega (arith, c.loop-g-test.false)) h_in;
}
