-- The seats that may lend themselves so far, the rest of them, and a berth for each of these.
use Rattle.std.proofs.Common.{◌≡◌, ◌+◌, ◌≤◌, ◌++◌, vec_len, vec_capacity}
use Rattle.std.specs.Vec.Iter.{into_iter_items, into_iter_len}
use Rattle.std.specs.List.{All}
use Rattle.bw_lend.specs.Rule.{Each}
use Rattle.bw_lend.proofs.seat.lend.Given as goal

abbrev pub invariant-loop-seat : goal.invariant-loop-seat
invariant-loop-seat g l = let left = l.seat-iterator in record {
  belong : All (λ s. s.lock_id ≡ l.lock.lock_id) (into_iter_items left);
  berths : Each (λ b. b ≡ l.lock.lock_id) l.berths.items;
  many : vec_len l.berths ≡ into_iter_len left;
  room : vec_len l.lending + into_iter_len left ≤ vec_capacity l.lending;
  same : l.lending.items ++ into_iter_items left ≡ l.fn.seats.items;
}
