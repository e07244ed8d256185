-- The goals of `children_sums` that are answered by hand.
use Rattle.std.proofs.Common.{◌≡◌, ℕ, ◌+◌, ◌-◌, ◌^◌, ◌≤◌, Vec, Some, length, ap, sym}
use Rattle.std.proofs.Common.{◌∙◌, arith}
use Rattle.std.specs.Prelude.{slice_index}
use Rattle.std.specs.declared.alloc.Global.{Global}
use Rattle.bw_model.specs.declared.limits.TheConstants.{MAX_GROUPS}
use Rattle.bw_model.specs.Groups.{parent_of}
use Rattle.bw_check.proofs.Gathered.{first-le, gathered_top, gathered_child, read_parent}
use Rattle.bw_check.proofs.tables.children_sums.Goals as goal
use Rattle.bw_check.proofs.tables.children_sums.Goals.{in-Some, in_default}

pub overflow_add-sum : goal.overflow_add-sum
overflow_add-sum c =
    let rows = c.args.instance.now.rows in
    let amounts = c.args.amounts.now in
    let sums = c.loop-c.sums.items in
    let found = read_parent rows sums c.group_count-count.result c.loop-c.c c.in-Some.parent
    c.index-sum.result.now c.in-Some.ensures.before c.loop-c-test.true
    c.group_count-count.ensures.count c.loop-c.invariant.summed.one_each c.index-sum.ensures in
    let most = first-le rows (slice_index amounts) (2 ^ 64 - 1) c.loop-c.c c.in-Some.parent
    (λ k _. omega (arith, c.type_inv.amounts k)) in
    let few : length rows ≤ MAX_GROUPS = c.group_count-count.ensures.valid.few in
    omega (
      arith,
      found.1,
      c.loop-c.invariant.summed.each c.in-Some.parent found.0,
      most,
      c.from.ensures,
      c.type_inv.amounts c.loop-c.c,
      few,
      c.loop-c-test.true,
      c.group_count-count.ensures.count,
    )

pub loop-c-preserved : goal.loop-c-preserved
loop-c-preserved c = elim c.match-parent.branch [
  | in-Some w ↦
      let rows = c.args.instance.now.rows in
      let amounts = c.args.amounts.now in
      let sums = c.loop-c.sums.items in
      let found = read_parent rows sums c.group_count-count.result c.loop-c.c w.in-Some.parent
      w.index-sum.result.now w.in-Some.ensures.before c.loop-c-test.true
      c.group_count-count.ensures.count c.loop-c.invariant.summed.one_each w.index-sum.ensures in
      let stored = ap (λ (v : Vec ℕ Global). v.items) w.sums-is in
      let up : parent_of rows c.loop-c.c ≡ Some w.in-Some.parent =
      sym c.parent.ensures.value ∙ w.in-Some.is in
      rw stored (record {
        summed = gathered_child rows (slice_index amounts) c.loop-c.c w.in-Some.parent
            (w.index-sum.result.now + w.from.result) sums up found.0
            (omega (arith, found.1, w.from.ensures)) c.loop-c.invariant.summed;
        visited = omega (arith, c.one_more.ensures, c.loop-c.invariant.visited);
      })
  | in_default w ↦
      let stored = ap (λ (v : Vec ℕ Global). v.items) w.sums-is in
      rw stored (record {
        summed = gathered_top c.args.instance.now.rows (slice_index c.args.amounts.now) c.loop-c.c
            c.loop-c.sums.items
            (sym c.parent.ensures.value ∙ w.in_default.is) c.loop-c.invariant.summed;
        visited = omega (arith, c.one_more.ensures, c.loop-c.invariant.visited);
      })
]
