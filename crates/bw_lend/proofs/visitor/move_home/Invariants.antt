-- The seats so far, and the rest of them.
use Rattle.std.proofs.Common.{◌≡◌, ◌+◌, ◌≤◌, ◌++◌, vec_len, vec_capacity}
use Rattle.std.specs.Vec.Iter.{into_iter_items, into_iter_len}
use Rattle.bw_lend.proofs.visitor.move_home.Given as goal

abbrev pub invariant-loop-seat : goal.invariant-loop-seat
invariant-loop-seat g l = let left = l.seat-iterator in record {
  room : vec_len l.home + into_iter_len left ≤ vec_capacity l.home;
  same : l.home.items ++ into_iter_items left ≡ l.fn.seats.items;
}
