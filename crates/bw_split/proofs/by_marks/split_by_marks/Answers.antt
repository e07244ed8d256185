-- The goals of `split_by_marks` that are answered by hand.
use Rattle.std.proofs.Common.{◌≡◌, ◌<◌, ◌≤◌, ◌+◌, ℕ, suc, replicate, length, get_or, set, refl, sym}
use Rattle.std.proofs.Common.{◌∙◌, subst, arith, rules}
use Rattle.std.specs.Prelude.{sum}
use Rattle.std.specs.BinaryHeap.{heap_items}
use Rattle.std.proofs.lemmas.List.{get_or-set_same}
use Rattle.std.proofs.lemmas.List.Sums.{get_or-le-sum_by}
use Rattle.bw_model.specs.Split.{IsCheapest}
use Rattle.bw_split.proofs.Filling.{IsFilled, none_filled, filled_more, not_full}
use Rattle.bw_split.proofs.Filling.{filled-IsBestSplit}
use Rattle.bw_model.proofs.CallerLemmas.{get_or_within, zeros}
use Rattle.bw_split.proofs.NextMarks.{IsNextOf, IsLined, mark_in, lined-none, lined-full}
use Rattle.bw_split.proofs.NextMarks.{popped-IsNextOf, popped-IsCheapest, given-full, least_of}
use Rattle.bw_split.proofs.NextMarks.{empty-full}
use Rattle.bw_split.proofs.NextMarks.{first-lined, back-lined}
use Rattle.bw_split.proofs.by_marks.split_by_marks.Goals as goal
use Rattle.bw_split.proofs.by_marks.split_by_marks.Goals.{In-Some, After-index_mut}
use Rattle.bw_split.proofs.by_marks.split_by_marks.Goals.{then-most-i-gt0+in_ok-push}
use Rattle.bw_split.proofs.by_marks.split_by_marks.Goals.{else-most-i-gt0}
use Rattle.bw_split.proofs.by_marks.split_by_marks.Goals.{then-index-most+in_ok-push-in-Some}
use Rattle.bw_split.proofs.by_marks.split_by_marks.Goals.{else-index-most}

pub loop-i-init : goal.loop-i-init
loop-i-init c = record {
  lined = rw c.in_ok-heap.ensures.items
      (lined-none mark_in c.args.weights.now c.args.most.now
      (replicate (length c.args.weights.now) 0));
  heap = c.in_ok-heap.ensures.heap_order;
}

pub loop-i-preserved : goal.loop-i-preserved
loop-i-preserved c =
    let inv = c.loop-i.invariant in
    elim c.if-most-i-gt0.branch [
      | then-most-i-gt0+in_ok-push w ↦ rw w.heap-is (record {
        lined = first-lined c.loop-i.i c.args.weights.now c.args.most.now
            (length c.args.weights.now) (heap_items c.loop-i.heap)
            (heap_items w.push.new.self) _ w.in_ok-push.ensures.permutation inv.lined
            c.loop-i-test.true w.if-most-i-gt0.true refl refl refl;
        heap = w.in_ok-push.ensures.heap_order inv.heap;
      })
      | else-most-i-gt0 w ↦ rw w.heap-is (record {
        lined = lined-full mark_in c.loop-i.i c.args.weights.now c.args.most.now
            (replicate (length c.args.weights.now) 0) (heap_items c.loop-i.heap)
            inv.lined (let z = zeros (length c.args.weights.now) c.loop-i.i in
            omega (arith, z, w.if-most-i-gt0.false));
        heap = inv.heap;
      })
    ]

pub loop-slice-init : goal.loop-slice-init
loop-slice-init c =
    let e : c.in_ok-parts.parts.items ≡ replicate (length c.args.weights.now) 0 = search rules in
    let all : c.loop-i.i ≡ length c.args.weights.now = omega arith in
    record {
      filled = rw e
          (none_filled c.args.weights.now c.args.most.now (length c.args.weights.now)
          (sym c.requires.one_each));
      lined = rw e (subst
          (λ (n : ℕ). IsLined mark_in n c.args.weights.now c.args.most.now
          (replicate (length c.args.weights.now) 0) (heap_items c.loop-i.heap))
          all c.loop-i.invariant.lined);
      heap = c.loop-i.invariant.heap;
    }

whole_of : (c : In-Some) → length c.loop-slice.parts.items ≡ length c.args.weights.now
whole_of c = c.loop-slice.invariant.filled.split.lengths ∙ c.requires.one_each

-- the mark that was taken is the next mark of its child
top_of : (c : In-Some) → IsNextOf mark_in c.args.weights.now c.args.most.now
    c.loop-slice.parts.items c.in-Some.field-0
top_of c =
    popped-IsNextOf mark_in (length c.args.weights.now) c.args.weights.now c.args.most.now
    c.loop-slice.parts.items (heap_items c.loop-slice.heap) (heap_items c.pop.new.self)
    c.in-Some.field-0 c.loop-slice.invariant.lined (whole_of c) c.in-Some.ensures.permutation

-- what the child has so far
read_of : (c : After-index_mut) → c.in-Some.field-0.0.place < length c.loop-slice.parts.items
    → c.index_mut.result.now ≡ get_or c.loop-slice.parts.items c.in-Some.field-0.0.place 0
read_of c within =
    c.index_mut.ensures.value ∙ get_or_within c.loop-slice.parts.items c.in-Some.field-0.0.place
    c.index_mut.result.now within

pub index_mut-requires : goal.index_mut-requires
index_mut-requires c =
    let top = top_of (goal.at.index_mut-requires c).In-Some in
    let within : c.in-Some.field-0.0.place < length c.loop-slice.parts.items =
    top.within in search rules

pub overflow_add-index_mut : goal.overflow_add-index_mut
overflow_add-index_mut c =
    let top = top_of (goal.at.overflow_add-index_mut c).In-Some in
    let read = read_of (goal.at.overflow_add-index_mut c).After-index_mut top.within in
    let fits = c.type_inv.most c.in-Some.field-0.0.place in
    omega (arith, read, top.room, fits)

pub index-requires : goal.index-requires
index-requires c =
    let top = top_of (goal.at.index-requires c).In-Some in
    let within : c.in-Some.field-0.0.place < length c.loop-slice.parts.items =
    top.within in search rules

pub bounds-most-i-in-Some : goal.bounds-most-i-in-Some
bounds-most-i-in-Some c =
    let inv = c.loop-slice.invariant in
    let top = top_of (goal.at.bounds-most-i-in-Some c).In-Some in
    omega (arith, top.within, inv.filled.split.lengths)

pub overflow_add-mark : goal.overflow_add-mark
overflow_add-mark c =
    let inv = c.loop-slice.invariant in
    let top = top_of (goal.at.overflow_add-mark c).In-Some in
    let part : get_or c.loop-slice.parts.items c.in-Some.field-0.0.place 0
    ≤ sum c.loop-slice.parts.items =
    get_or-le-sum_by (λ x. x) c.loop-slice.parts.items c.in-Some.field-0.0.place 0 top.within in
    omega (arith, top.num, part, inv.filled.split.whole, c.loop-slice-test.true, c.requires.small)

pub loop-slice-preserved : goal.loop-slice-preserved
loop-slice-preserved c =
    let inv = c.loop-slice.invariant in
    let whole = whole_of (goal.at.loop-slice-preserved c).In-Some in
    let top = top_of (goal.at.loop-slice-preserved c).In-Some in
    let read = read_of (goal.at.loop-slice-preserved c).After-index_mut top.within in
    let popped = c.in-Some.ensures.heap_order inv.heap in
    let cheap : IsCheapest c.args.weights.now c.args.most.now c.loop-slice.parts.items
    c.in-Some.field-0.0.place =
    popped-IsCheapest mark_in (length c.args.weights.now) c.args.weights.now c.args.most.now
    c.loop-slice.parts.items
    (heap_items c.loop-slice.heap) (heap_items c.pop.new.self) c.in-Some.field-0 inv.lined whole
    c.in-Some.ensures.permutation
    (least_of c.in-Some.field-0 (heap_items c.loop-slice.heap) popped.1) in
    let filled : IsFilled (c.loop-slice._slice + 1) c.args.weights.now c.args.most.now
    (set c.loop-slice.parts.items c.in-Some.field-0.0.place (c.index_mut.result.now + 1)) =
    filled_more c.loop-slice._slice (c.loop-slice._slice + 1) c.args.weights.now c.args.most.now
    c.loop-slice.parts.items c.in-Some.field-0.0.place
    (c.index_mut.result.now + 1) (omega arith) (omega (arith, read)) (sym c.requires.one_each)
    (λ k below. (c.requires.weights_in_range k below).0) inv.filled cheap in
    let now : c.index.result.now ≡ c.index_mut.result.now + 1 =
    c.index.ensures ∙ get_or-set_same c.loop-slice.parts.items c.in-Some.field-0.0.place
    (c.index_mut.result.now + 1) c.index.result.now top.within in
    let one_more : c.index_mut.result.now + 1
    ≡ suc (get_or c.loop-slice.parts.items c.in-Some.field-0.0.place 0) = omega (arith, read) in
    elim c.if-index-most.branch [
      | then-index-most+in_ok-push-in-Some w ↦ rw w.heap-is (record {
        filled = filled;
        lined = back-lined (length c.args.weights.now) c.args.weights.now c.args.most.now
            c.loop-slice.parts.items
            (heap_items c.loop-slice.heap) (heap_items c.pop.new.self)
            (heap_items w.push-then-index-most.new.self) c.in-Some.field-0 _
            w.in_ok-push-in-Some.ensures.permutation c.in-Some.ensures.permutation inv.lined whole
            (c.index_mut.result.now + 1) one_more
            (omega (arith, now, w.if-index-most.true)) refl refl refl;
        heap = w.in_ok-push-in-Some.ensures.heap_order popped.0;
      })
      | else-index-most w ↦ rw w.heap-is (record {
        filled = filled;
        lined = given-full mark_in (length c.args.weights.now) c.args.weights.now c.args.most.now
            c.loop-slice.parts.items
            (heap_items c.loop-slice.heap) (heap_items c.pop.new.self) c.in-Some.field-0 inv.lined
            whole c.in-Some.ensures.permutation
            (c.index_mut.result.now + 1) (omega (arith, now, w.if-index-most.false));
        heap = popped.0;
      })
    ]

pub unreachable-requires : goal.unreachable-requires
unreachable-requires c =
    let inv = c.loop-slice.invariant in
    let none = c.in-None.ensures.none in
    let z : length (heap_items c.loop-slice.heap) ≡ 0 = search rules in
    not_full c.loop-slice._slice c.args.amount c.args.weights.now c.args.most.now
    c.loop-slice.parts.items inv.filled
    c.loop-slice-test.true c.requires.enough
    (λ k below. empty-full (length c.args.weights.now) c.args.weights.now c.args.most.now
    c.loop-slice.parts.items (heap_items c.loop-slice.heap) z inv.lined k
    (omega (arith, below, inv.filled.split.lengths, c.requires.one_each)))

pub returns : goal.returns
returns c =
    let all : c.loop-slice._slice ≡ c.args.amount = omega arith in
    record {
      best = filled-IsBestSplit c.args.amount c.args.weights.now c.args.most.now
          c.loop-slice.parts.items
          (sym c.requires.one_each) (λ k below. (c.requires.weights_in_range k below).0)
          (subst (λ (given : ℕ). IsFilled given c.args.weights.now c.args.most.now
          c.loop-slice.parts.items) all c.loop-slice.invariant.filled);
    }
