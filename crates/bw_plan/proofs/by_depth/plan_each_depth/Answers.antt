-- The goals of `plan_each_depth` that are answered by hand.
use Rattle.std.proofs.Common.{◌≡◌, ◌+◌, ◌-◌, ℕ, List, length, get_or, replicate, set, ap, refl}
use Rattle.std.proofs.Common.{subst, arith, rules}
use Rattle.bw_model.specs.declared.row.Row.{Row}
use Rattle.bw_model.specs.Demand.{AreMaxTotals}
use Rattle.bw_model.proofs.CallerLemmas.{AreMaxTotals-capped}
use Rattle.bw_plan.specs.Cost.{IsCounted}
use Rattle.bw_plan.specs.Shared.{IsPlanning, is_above}
use Rattle.bw_plan.proofs.Costs.{counted_none, counted_then, counted_rounds, counted_picks}
use Rattle.bw_plan.proofs.Shares.{begun, all_planned}
use Rattle.bw_plan.proofs.Done.{none_above, inner_above}
use Rattle.bw_plan.proofs.by_depth.plan_each_depth.Goals as goal

pub loop-below-init : goal.loop-below-init
loop-below-init g c =
    let groups = c.args.instance.now in
    let valid = c.rows.ensures.valid in
    let most = c.as_slice-most.result.now in
    let known : AreMaxTotals groups most =
    rw c.as_slice-most.ensures.value c.requires.gathered.mosts in
    let long : length c.rows.result.now ≡ length groups.rows =
    ap (length {A = Row}) c.rows.ensures.rows in
    let zeros : c.in_ok-amounts.amounts.items
    ≡ replicate {A = ℕ} (length c.rows.result.now) 0 = search rules in
    record {
      planning = begun groups valid most (AreMaxTotals-capped groups valid.tree most known)
          (is_above groups.rows 0) (λ h _. none_above groups.rows h)
          (length c.rows.result.now) (get_or most 0 0)
          (set c.in_ok-amounts.amounts.items 0 (get_or most 0 0)) long refl
          (ap (λ (xs : List ℕ). set xs 0 (get_or most 0 0)) zeros);
      counted = counted_none groups.rows (is_above groups.rows 0) c.args.work.now;
    }

pub loop-below-preserved : goal.loop-below-preserved
loop-below-preserved g c =
    let rows = c.args.instance.now.rows in
    let next : c.loop-below.below - 1 + 1 ≡ c.loop-below.below + 1 - 1 = omega arith in
    record {
      planning = subst (λ (n : ℕ). IsPlanning c.args.instance.now c.as_slice-most.result.now
          (is_above rows n) c.share_depth.new.amounts.items) next
          c.in_ok-share_depth.ensures.planning;
      counted = subst (λ (n : ℕ). IsCounted rows (is_above rows 0) (is_above rows n)
          c.args.work.now c.share_depth.new.work) next
          (counted_then rows (is_above rows 0) (is_above rows (c.loop-below.below - 1))
          (is_above rows (c.loop-below.below - 1 + 1)) c.args.work.now c.loop-below.work
          c.share_depth.new.work c.loop-below.invariant.counted c.share_depth.ensures.counted);
    }

pub returns-in_err-share_depth-clause-rounds : goal.returns-in_err-share_depth-clause-rounds
returns-in_err-share_depth-clause-rounds g c =
    let rows = c.args.instance.now.rows in
    let most = is_above rows (c.loop-below.below - 1 + 1) in
    counted_rounds rows (is_above rows 0) most c.args.work.now c.share_depth.new.work
    (counted_then rows (is_above rows 0) (is_above rows (c.loop-below.below - 1)) most
    c.args.work.now c.loop-below.work c.share_depth.new.work c.loop-below.invariant.counted
    c.share_depth.ensures.counted)

pub returns-in_err-share_depth-clause-picks : goal.returns-in_err-share_depth-clause-picks
returns-in_err-share_depth-clause-picks g c =
    let rows = c.args.instance.now.rows in
    let most = is_above rows (c.loop-below.below - 1 + 1) in
    counted_picks rows (is_above rows 0) most c.args.work.now c.share_depth.new.work
    (counted_then rows (is_above rows 0) (is_above rows (c.loop-below.below - 1)) most
    c.args.work.now c.loop-below.work c.share_depth.new.work c.loop-below.invariant.counted
    c.share_depth.ensures.counted)

pub returns-clause-plan : goal.returns-clause-plan
returns-clause-plan g c =
    let groups = c.args.instance.now in
    let valid = c.rows.ensures.valid in
    let most = c.as_slice-most.result.now in
    let known : AreMaxTotals groups most =
    rw c.as_slice-most.ensures.value c.requires.gathered.mosts in
    all_planned groups valid most (AreMaxTotals-capped groups valid.tree most known)
    (is_above groups.rows (c.loop-below.below - 1)) c.loop-below.amounts.items
    (λ h _ inner. inner_above groups.rows valid.tree c.args.depths.now (c.loop-below.below - 1)
    c.requires.depths
    (omega (arith, c.loop-below-test.false, c.loop-below.auto.below-end)) h inner)
    c.loop-below.invariant.planning

pub returns-clause-rounds : goal.returns-clause-rounds
returns-clause-rounds g c =
    let rows = c.args.instance.now.rows in
    counted_rounds rows (is_above rows 0) (is_above rows (c.loop-below.below - 1))
    c.args.work.now c.loop-below.work c.loop-below.invariant.counted

pub returns-clause-picks : goal.returns-clause-picks
returns-clause-picks g c =
    let rows = c.args.instance.now.rows in
    counted_picks rows (is_above rows 0) (is_above rows (c.loop-below.below - 1))
    c.args.work.now c.loop-below.work c.loop-below.invariant.counted
