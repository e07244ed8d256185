-- The goals of `plan_rows_counted` that are answered by hand.
use Rattle.std.proofs.Common.{◌≡◌, ◌<◌, ◌+◌, ℕ, suc, List, length, get_or, replicate, set, ap}
use Rattle.std.proofs.Common.{◌||◌, eqb, subst, ◌∙◌, arith, rules}
use Rattle.std.proofs.lemmas.Bool.{lt-ltb, le-ltb}
use Rattle.bw_model.specs.declared.row.Row.{Row}
use Rattle.bw_model.proofs.CallerLemmas.{AreMaxTotals-capped, get_or_within}
use Rattle.bw_plan.specs.Shared.{IsPlanning, AreParts}
use Rattle.bw_plan.proofs.Shares.{rows_before, begun, can_share, given_more, all_planned}
use Rattle.bw_plan.proofs.Shares.{next_fresh, next_marks, before_next, before_closed, parent_done}
use Rattle.bw_split.specs.Counts.{Done}
use Rattle.bw_plan.specs.Cost.{IsOneCounted, IsCounted}
use Rattle.bw_plan.proofs.Costs.{counted_one, counted_none, counted_then, counted_rounds}
use Rattle.bw_plan.proofs.Costs.{counted_picks}
use Rattle.bw_plan.proofs.by_rows.plan_rows_counted.Goals as goal

pub loop-g-init : goal.loop-g-init
loop-g-init c =
    let long : length c.rows-count.result.now ≡ length c.args.instance.now.rows =
    ap (length {A = Row}) c.rows-count.ensures.rows in
    let root : 0 < length c.args.instance.now.rows = c.rows-count.ensures.valid.tree.has_root in
    let read : c.index.result.now ≡ get_or c.args.gathered.now.most.items 0 0 =
    c.index.ensures ∙ get_or_within c.args.gathered.now.most.items 0 c.index.result.now
    (omega (arith, root, c.requires.mosts.one_each)) in
    let zeros : c.in_ok-amounts.amounts.items
    ≡ replicate {A = ℕ} (length c.rows-count.result.now) 0 = search rules in
    record {
      planning = begun c.args.instance.now c.rows-count.ensures.valid c.args.gathered.now.most.items
          (AreMaxTotals-capped c.args.instance.now c.rows-count.ensures.valid.tree
          c.args.gathered.now.most.items c.requires.mosts)
          (rows_before 0) (λ h _. le-ltb h 0 (omega arith))
          (length c.rows-count.result.now) c.index.result.now
          (set c.in_ok-amounts.amounts.items 0 c.index.result.now) long read
          (ap (λ (xs : List ℕ). set xs 0 c.index.result.now) zeros);
      counted = counted_none c.args.instance.now.rows (rows_before 0) c.args.work.now;
    }

pub share_out-requires : goal.share_out-requires
share_out-requires c =
    let groups = c.args.instance.now in
    let valid = c.rows-count.ensures.valid in
    let most = c.args.gathered.now.most.items in
    let long : length c.rows-count.result.now ≡ length groups.rows =
    ap (length {A = Row}) c.rows-count.ensures.rows in
    let inside : c.loop-g.g < length groups.rows = omega (arith, long, c.loop-g-test.true) in
    rw c.as_slice-most.ensures.value
    (can_share groups valid most (AreMaxTotals-capped groups valid.tree most c.requires.mosts)
    c.requires.mosts.one_each
    (rows_before c.loop-g.g) c.loop-g.g c.loop-g.amounts.items inside c.loop-g.invariant.planning
    (parent_done groups valid.tree c.loop-g.g))

next_before : (g h : ℕ) → rows_before (g + 1) h ≡ (rows_before g h || eqb g h)
next_before g h =
    let next : g + 1 ≡ suc g = omega arith in
    ap (λ (n : ℕ). rows_before n h) next ∙ before_next h g

counted_next : (rows : List Row) → (g : ℕ) (before after : Done) → g < length rows
    → IsOneCounted rows g before after
    → IsCounted rows (rows_before g) (rows_before (g + 1)) before after
counted_next rows g before after inside one =
    counted_one rows (rows_before g) (rows_before (g + 1)) g (le-ltb g g (omega arith))
    (next_before g) inside before after one

counted_after : (rows : List Row) (g : ℕ) (first before after : Done) → g < length rows
    → IsCounted rows (rows_before 0) (rows_before g) first before
    → IsOneCounted rows g before after
    → IsCounted rows (rows_before 0) (rows_before (g + 1)) first after
counted_after rows g first before after inside so_far one =
    counted_then rows (rows_before 0) (rows_before g) (rows_before (g + 1)) first before after
    so_far (counted_next rows g before after inside one)

pub loop-g-preserved : goal.loop-g-preserved
loop-g-preserved c =
    let groups = c.args.instance.now in
    let valid = c.rows-count.ensures.valid in
    let most = c.args.gathered.now.most.items in
    let before = c.loop-g.amounts.items in
    let long : length c.rows-count.result.now ≡ length groups.rows =
    ap (length {A = Row}) c.rows-count.ensures.rows in
    let inside : c.loop-g.g < length groups.rows = omega (arith, long, c.loop-g-test.true) in
    let shared = c.in_ok-share_out.ensures.shared in
    let parts : AreParts groups most before c.loop-g.g shared.0 =
    rw c.as_slice-most.ensures.value at shared.1 in
    let next : suc c.loop-g.g ≡ c.loop-g.g + 1 = omega arith in
    record {
      planning = subst (λ (n : ℕ). IsPlanning groups most (rows_before n)
          c.share_out.new.amounts.items) next
          (given_more groups valid most (AreMaxTotals-capped groups valid.tree most c.requires.mosts)
          (rows_before c.loop-g.g) (rows_before (suc c.loop-g.g)) c.loop-g.g inside
          (next_fresh groups valid.tree c.loop-g.g)
          (next_marks groups valid.tree c.loop-g.g) (before_closed groups valid.tree c.loop-g.g)
          (parent_done groups valid.tree c.loop-g.g)
          shared.0 before c.share_out.new.amounts.items c.loop-g.invariant.planning parts shared.2);
      counted = counted_after groups.rows c.loop-g.g c.args.work.now c.loop-g.work
          c.share_out.new.work inside c.loop-g.invariant.counted c.share_out.ensures.counted;
    }

pub returns-in_err-share_out-clause-rounds : goal.returns-in_err-share_out-clause-rounds
returns-in_err-share_out-clause-rounds c =
    let rows = c.args.instance.now.rows in
    let long : length c.rows-count.result.now ≡ length rows =
    ap (length {A = Row}) c.rows-count.ensures.rows in
    counted_rounds rows (rows_before 0) (rows_before (c.loop-g.g + 1)) c.args.work.now
    c.share_out.new.work
    (counted_after rows c.loop-g.g c.args.work.now c.loop-g.work c.share_out.new.work
    (omega (arith, long, c.loop-g-test.true)) c.loop-g.invariant.counted
    c.share_out.ensures.counted)

pub returns-in_err-share_out-clause-picks : goal.returns-in_err-share_out-clause-picks
returns-in_err-share_out-clause-picks c =
    let rows = c.args.instance.now.rows in
    let long : length c.rows-count.result.now ≡ length rows =
    ap (length {A = Row}) c.rows-count.ensures.rows in
    counted_picks rows (rows_before 0) (rows_before (c.loop-g.g + 1)) c.args.work.now
    c.share_out.new.work
    (counted_after rows c.loop-g.g c.args.work.now c.loop-g.work c.share_out.new.work
    (omega (arith, long, c.loop-g-test.true)) c.loop-g.invariant.counted
    c.share_out.ensures.counted)

pub returns-clause-plan : goal.returns-clause-plan
returns-clause-plan c =
    let groups = c.args.instance.now in
    let valid = c.rows-count.ensures.valid in
    let most = c.args.gathered.now.most.items in
    let long : length c.rows-count.result.now ≡ length groups.rows =
    ap (length {A = Row}) c.rows-count.ensures.rows in
    all_planned groups valid most (AreMaxTotals-capped groups valid.tree most c.requires.mosts)
    (rows_before c.loop-g.g) c.loop-g.amounts.items
    (λ h below _. lt-ltb h c.loop-g.g (omega (arith, long, below, c.loop-g-test.false)))
    c.loop-g.invariant.planning

pub returns-clause-rounds : goal.returns-clause-rounds
returns-clause-rounds c =
    counted_rounds c.args.instance.now.rows (rows_before 0) (rows_before c.loop-g.g)
    c.args.work.now c.loop-g.work c.loop-g.invariant.counted

pub returns-clause-picks : goal.returns-clause-picks
returns-clause-picks c =
    counted_picks c.args.instance.now.rows (rows_before 0) (rows_before c.loop-g.g)
    c.args.work.now c.loop-g.work c.loop-g.invariant.counted
