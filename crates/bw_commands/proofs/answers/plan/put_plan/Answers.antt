-- The goals of `put_plan` that are answered by hand.
use Rattle.std.proofs.Common.{◌≡◌, ◌∙◌, length, sym, ap, subst, arith}
use Rattle.std.specs.List.{range_with_len}
use Rattle.std.specs.Map.{keys_of}
use Rattle.std.proofs.lemmas.List.FromFn.{length-map-range_with_len}
use Rattle.bw_model.specs.Allocation.{total}
use Rattle.bw_model.specs.Groups.{Groups}
use Rattle.bw_model.specs.Plan.{IsPlan}
use Rattle.bw_tree.specs.Kept.{IsSnapshotOf}
use Rattle.bw_hierarchy.specs.State.{HierarchyState}
use Rattle.bw_commands.specs.GroupLines.{ArePathsOf, group_lines}
use Rattle.bw_commands.specs.Planned.{amount_line}
use Rattle.bw_commands.proofs.Totals.{groups_are_rows}
use Rattle.bw_commands.proofs.answers.plan.put_plan.Goals as goal

pub put_lines-requires : goal.put_lines-requires
put_lines-requires g c =
    let rows = c.in_ok-snapshot.snapshot.instance.rows in
    let plan = c.in_ok-plan.ensures in
    let amounts : length c.as_slice.result.now ≡ length rows =
    ap length c.as_slice.ensures.value ∙ ap length plan.amounts_are
    ∙ length-map-range_with_len (total rows plan.allocation) 0 (length rows) in
    let ids : length (keys_of c.tree.result.now.groups) ≡ length rows =
    groups_are_rows
    (c.tree.ensures ∙ ap (λ (h : HierarchyState). h.tree) c.take_snapshot.ensures.same)
    c.in_ok-snapshot.ensures.taken.rows in
    λ k lt. omega (arith, lt, amounts, ids)

pub keep-requires : goal.keep-requires
keep-requires g c =
    subst (λ (h : HierarchyState). IsSnapshotOf c.in_ok-snapshot.snapshot h.tree h.shape)
    (sym c.take_snapshot.ensures.same) c.in_ok-snapshot.ensures.taken

pub returns-clause-answers : goal.returns-clause-answers
returns-clause-answers g c =
    let tree = c.args.hierarchy.now.tree in
    let same : c.tree.result.now ≡ tree =
    c.tree.ensures ∙ ap (λ (h : HierarchyState). h.tree) c.take_snapshot.ensures.same in
    let instance = c.in_ok-snapshot.snapshot.instance in
    let made = c.in_ok-snapshot.ensures.taken in
    let put = c.in_ok-put_lines.ensures.ok in
    let amounts = c.as_slice.result.now in
    let ids = keys_of c.tree.result.now.groups in
    let count : length ids ≡ length instance.rows = groups_are_rows same made.rows in
    let rows = count ∙ ap (λ (x : Groups). length x.rows) made.rows in
    record {
      ok = (
        group_lines (amount_line amounts) (range_with_len 0 (length ids)) put.0,
        record {
          amounts = amounts;
          paths = put.0;
          plan = subst (λ (x : Groups). IsPlan x amounts) made.rows
              (subst (IsPlan instance) (sym c.as_slice.ensures.value) c.in_ok-plan.ensures);
          named = subst (λ n. ArePathsOf tree (range_with_len 0 n) put.0) rows
              (subst (λ t. ArePathsOf t (range_with_len 0 (length ids)) put.0) same
              put.1);
          is = ap (λ n. group_lines (amount_line amounts) (range_with_len 0 n) put.0) rows;
        },
        put.2,
      );
      err = tt;
      room = c.in_ok-put_lines.ensures.room;
    }
