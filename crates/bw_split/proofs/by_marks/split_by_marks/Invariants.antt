-- What stands at each turn of the loops in `split_by_marks`.
use Rattle.std.proofs.Common.{replicate, length}
use Rattle.std.specs.BinaryHeap.{IsHeap, heap_items}
use Rattle.bw_split.proofs.Filling.{IsFilled}
use Rattle.bw_split.proofs.NextMarks.{IsLined, mark_in, by_mark}
use Rattle.bw_split.proofs.by_marks.split_by_marks.Given as goal

abbrev pub invariant-loop-i : goal.invariant-loop-i
invariant-loop-i l = record {
  lined : IsLined mark_in l.i l.weights l.most (replicate (length l.weights) 0) (heap_items l.heap);
  heap : IsHeap by_mark (heap_items l.heap);
}

abbrev pub invariant-loop-slice : goal.invariant-loop-slice
invariant-loop-slice l = record {
  filled : IsFilled l._slice l.weights l.most l.parts.items;
  lined : IsLined mark_in (length l.weights) l.weights l.most l.parts.items (heap_items l.heap);
  heap : IsHeap by_mark (heap_items l.heap);
}
