-- The goals of `share_in_pieces` that are answered by hand.
use Rattle.std.proofs.Common.{◌≡◌, ◌<◌, ℕ, List, length, get_or, ap, sym, refl, ◌∙◌}
use Rattle.std.proofs.Common.{arith}
use Rattle.std.proofs.lemmas.List.{get_or_default, length-map}
use Rattle.std.specs.Prelude.{slice_index}
use Rattle.bw_model.specs.Groups.{children_of}
use Rattle.bw_model.proofs.CallerLemmas.{AreMaxTotals-capped, is_child_no}
use Rattle.bw_demand.specs.ByDepth.{rows_of_depth}
use Rattle.bw_demand.proofs.CallerLemmas.{IsListed, is_listed, depth_within, depth_row}
use Rattle.bw_plan.specs.Shared.{AreParts, is_above}
use Rattle.bw_plan.proofs.Shares.{can_share}
use Rattle.bw_plan.proofs.Done.{parent_above, no_child}
use Rattle.bw_plan.proofs.OneDepth.{none_shared, all_shared, next_shared}
use Rattle.bw_plan.proofs.OneDepth.{none_counted, all_counted, next_counted}
use Rattle.bw_plan.proofs.Costs.{one_added}
use Rattle.bw_plan.specs.Cost.{AreCountedParts, nothing_done, IsOneCounted}
use Rattle.bw_plan.specs.declared.counted_parts.CountedParts.{CountedParts}
use Rattle.bw_plan.proofs.Collected.{at_place, zip_long}
use Rattle.bw_plan.proofs.by_depth.share_in_pieces.Goals as goal

pub parts_of_each-requires-after_bounds : goal.parts_of_each-requires-after_bounds
parts_of_each-requires-after_bounds g c = λ κs outlives k d lt.
    let groups = c.args.instance.now in
    let valid = c.rows-rows.ensures.valid in
    let most = c.args.most.now in
    let before = c.args.amounts.now.items in
    let listed = c.rows_at-groups.ensures in
    let here : k < length (rows_of_depth groups.rows c.args.depth) = rw listed at lt in
    let at_depth = depth_row groups.rows c.args.depth k here in
    rw (get_or_default c.rows_at-groups.result.now k d 0 lt, listed, c.as_slice.ensures.value)
    (can_share groups valid most (AreMaxTotals-capped groups valid.tree most c.requires.mosts)
    c.requires.mosts.one_each
    (is_above groups.rows c.args.depth) (get_or (rows_of_depth groups.rows c.args.depth) k 0) before
    at_depth.within c.requires.planning
    (λ p up. parent_above groups.rows valid.tree c.args.depth
    (get_or (rows_of_depth groups.rows c.args.depth) k 0) p at_depth.depth up))

pub loop-k-init : goal.loop-k-init
loop-k-init g c = record {
  planning =
      none_shared c.args.instance.now c.rows-rows.ensures.valid c.args.most.now c.requires.mosts
      c.args.depth c.args.amounts.now.items c.requires.planning;
  counted =
      none_counted c.args.instance.now c.rows-rows.ensures.valid c.args.most.now c.requires.mosts
      c.args.depth c.args.work.now;
  held = λ j _. refl;
}

pub returns-in_err-parts-clause-counted : goal.returns-in_err-parts-clause-counted
returns-in_err-parts-clause-counted g c =
    all_counted c.args.instance.now c.rows-rows.ensures.valid c.args.most.now c.requires.mosts
    c.args.depth 0 c.args.work.now c.args.work.now
    (none_counted c.args.instance.now c.rows-rows.ensures.valid c.args.most.now c.requires.mosts
    c.args.depth c.args.work.now)

pub returns : goal.returns
returns g c = record {
  planning =
      all_shared c.args.instance.now c.rows-rows.ensures.valid c.args.most.now c.requires.mosts
      c.args.depth c.rows_at-groups.result.now c.rows_at-groups.ensures c.loop-k.k
      c.loop-k.amounts.items (omega (arith, c.loop-k-test.false)) c.loop-k.invariant.planning;
  counted =
      all_counted c.args.instance.now c.rows-rows.ensures.valid c.args.most.now c.requires.mosts
      c.args.depth c.loop-k.k c.args.work.now c.loop-k.work c.loop-k.invariant.counted;
}

pub index-counted-requires : goal.index-counted-requires
index-counted-requires g c =
    let long : length c.in_ok-parts.parts.items ≡ length c.rows_at-groups.result.now =
    zip_long (AreCountedParts c.args.instance.now c.args.most.now c.as_slice.result.now)
    c.rows_at-groups.result.now
    c.in_ok-parts.parts.items c.in_ok-parts.ensures in
    omega (arith, long, c.loop-k-test.true)

pub give-requires-clause-row : goal.give-requires-clause-row
give-requires-clause-row g c =
    let groups = c.args.instance.now in
    let listed = c.rows_at-groups.ensures in
    depth_within groups.rows c.args.depth c.loop-k.k c.rows_at-groups.result.now listed
    c.loop-k-test.true

pub give-requires-clause-part_each : goal.give-requires-clause-part_each
give-requires-clause-part_each g c = λ has two.
    let groups = c.args.instance.now in
    let k : ℕ = c.loop-k.k in
    let row : ℕ = get_or c.rows_at-groups.result.now c.loop-k.k 0 in
    let kept : get_or c.loop-k.amounts.items row 0 ≡ get_or c.as_slice.result.now row 0 =
    c.loop-k.invariant.held c.loop-k.k c.loop-k-test.true
    ∙ ap (λ (xs : List ℕ). get_or xs row 0) (sym c.as_slice.ensures.value) in
    let found = at_place
    (AreCountedParts groups c.args.most.now c.as_slice.result.now)
    c.rows_at-groups.result.now c.in_ok-parts.parts.items
    c.loop-k.k 0 c.index-counted.result.now c.in_ok-parts.ensures c.loop-k-test.true in
    let best = found.shared (rw kept at has) two in
    ap (length {A = ℕ})
    (c.as_slice-in-loop-k.ensures.value
    ∙ ap (λ (made : CountedParts). made.parts.items) c.index-counted.ensures)
    ∙ best.split.lengths ∙ length-map (children_of groups.rows row) (slice_index c.args.most.now)

pub loop-k-preserved : goal.loop-k-preserved
loop-k-preserved g c =
    let groups = c.args.instance.now in
    let valid = c.rows-rows.ensures.valid in
    let most = c.args.most.now in
    let d : ℕ = c.args.depth in
    let row : ℕ = get_or c.rows_at-groups.result.now c.loop-k.k 0 in
    let at : IsListed groups.rows d c.loop-k.k row =
    is_listed groups.rows d c.loop-k.k c.rows_at-groups.result.now c.rows_at-groups.ensures
    c.loop-k-test.true in
    let kept : get_or c.loop-k.amounts.items row 0 ≡ get_or c.as_slice.result.now row 0 =
    c.loop-k.invariant.held c.loop-k.k c.loop-k-test.true
    ∙ ap (λ (xs : List ℕ). get_or xs row 0) (sym c.as_slice.ensures.value) in
    let found = at_place
    (AreCountedParts groups c.args.most.now c.as_slice.result.now)
    c.rows_at-groups.result.now c.in_ok-parts.parts.items
    c.loop-k.k 0 c.index-counted.result.now c.in_ok-parts.ensures c.loop-k-test.true in
    let parts_are : c.as_slice-in-loop-k.result.now
    ≡ (get_or c.in_ok-parts.parts.items c.loop-k.k c.index-counted.result.now).parts.items =
    c.as_slice-in-loop-k.ensures.value
    ∙ ap (λ (made : CountedParts). made.parts.items) c.index-counted.ensures in
    let parts : AreParts groups most c.loop-k.amounts.items row c.as_slice-in-loop-k.result.now =
    λ has two.
    rw (kept, parts_are) (found.shared (rw kept at has) two) in
    let one : IsOneCounted groups.rows row nothing_done c.index-counted.result.now.work =
    rw (← c.index-counted.ensures) at found.counted in
    record {
      counted = next_counted groups valid most c.requires.mosts d c.rows_at-groups.result.now
          c.rows_at-groups.ensures c.loop-k.k c.loop-k-test.true c.args.work.now c.loop-k.work
          c.add.new.self c.loop-k.invariant.counted
          (one_added groups.rows row c.loop-k.work c.add.new.self c.index-counted.result.now.work
          c.add.ensures.rounds c.add.ensures.picks one);
      planning = next_shared groups valid most c.requires.mosts d c.rows_at-groups.result.now
          c.rows_at-groups.ensures c.loop-k.k c.loop-k-test.true c.as_slice-in-loop-k.result.now
          c.loop-k.amounts.items c.give.new.amounts.items c.loop-k.invariant.planning parts
          c.give.ensures;
      held = λ j lt.
          let other : ℕ = get_or c.rows_at-groups.result.now j 0 in
          let beside : IsListed groups.rows d j other =
          is_listed groups.rows d j c.rows_at-groups.result.now c.rows_at-groups.ensures lt in
          c.give.ensures.others other
          (is_child_no groups.rows row other
          (λ up. no_child groups.rows valid.tree d row other at.deep beside.deep up))
          ∙ c.loop-k.invariant.held j lt;
    }
