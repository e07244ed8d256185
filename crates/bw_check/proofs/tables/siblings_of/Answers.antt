-- The goals of `siblings_of` that are answered by hand.
use Rattle.std.proofs.Common.{◌≡◌, ℕ, ◌+◌, ◌<◌, Vec, Some, length, refl, ap, sym, ◌∙◌}
use Rattle.std.proofs.Common.{arith}
use Rattle.std.specs.declared.alloc.Global.{Global}
use Rattle.bw_model.specs.Groups.{parent_of}
use Rattle.bw_check.proofs.Gathered.{first-le, gathered_top, gathered_child, placed_top}
use Rattle.bw_check.proofs.Gathered.{placed_child, read_parent}
use Rattle.bw_check.proofs.tables.siblings_of.Goals as goal
use Rattle.bw_check.proofs.tables.siblings_of.Goals.{in-Some, in_default}

pub overflow_add-place : goal.overflow_add-place
overflow_add-place c =
    let rows = c.args.rows.now in
    let children = c.loop-c.children.items in
    let found = read_parent rows children (length rows) c.loop-c.c c.in-Some.parent
    c.index-place.result.now c.in-Some.ensures.before c.loop-c-test.true
    refl c.loop-c.invariant.counted.one_each c.index-place.ensures in
    let most = first-le rows (λ _. 1) 1 c.loop-c.c c.in-Some.parent (λ k _. omega arith) in
    omega (
      arith,
      found.1,
      c.loop-c.invariant.counted.each c.in-Some.parent found.0,
      most,
      c.requires.few,
      c.loop-c-test.true,
    )

pub loop-c-preserved : goal.loop-c-preserved
loop-c-preserved c = elim c.match-parent.branch [
  | in-Some w ↦
      let rows = c.args.rows.now in
      let children = c.loop-c.children.items in
      let here : c.loop-c.c < length rows =
      omega (arith, c.loop-c-test.true) in
      let found = read_parent rows children (length rows) c.loop-c.c w.in-Some.parent
      w.index-place.result.now w.in-Some.ensures.before c.loop-c-test.true
      refl c.loop-c.invariant.counted.one_each w.index-place.ensures in
      let places_are = ap (λ (v : Vec ℕ Global). v.items) w.places-is in
      let children_are = ap (λ (v : Vec ℕ Global). v.items) w.children-is in
      let up : parent_of rows c.loop-c.c ≡ Some w.in-Some.parent =
      sym c.parent.ensures.value ∙ w.in-Some.is in
      rw (places_are, children_are) (record {
        placed = placed_child rows c.loop-c.c c.loop-c.places.items c.loop-c.invariant.placed
            children w.in-Some.parent w.index-place.result.now
            c.loop-c.invariant.counted up found.0 here found.1;
        counted = gathered_child rows (λ _. 1) c.loop-c.c w.in-Some.parent
            (w.index-place.result.now + 1) children up found.0
            (omega (arith, found.1)) c.loop-c.invariant.counted;
        visited = omega (arith, c.one_more.ensures, c.loop-c.invariant.visited);
      })
  | in_default w ↦
      let places_are = ap (λ (v : Vec ℕ Global). v.items) w.places-is in
      let children_are = ap (λ (v : Vec ℕ Global). v.items) w.children-is in
      let none = sym c.parent.ensures.value ∙ w.in_default.is in
      rw (places_are, children_are) (record {
        placed = placed_top c.args.rows.now c.loop-c.c c.loop-c.places.items
            c.loop-c.invariant.placed none;
        counted = gathered_top c.args.rows.now (λ _. 1) c.loop-c.c c.loop-c.children.items
            none c.loop-c.invariant.counted;
        visited = omega (arith, c.one_more.ensures, c.loop-c.invariant.visited);
      })
]
