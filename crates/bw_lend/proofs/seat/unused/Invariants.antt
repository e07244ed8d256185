-- The contents that were made so far, and room for the others.
use Rattle.std.proofs.Common.{◌≡◌, ◌≤◌, vec_len, vec_capacity}
use Rattle.bw_lend.proofs.seat.unused.Given as goal

abbrev pub invariant-loop-place : goal.invariant-loop-place
invariant-loop-place g l = record {
  count : vec_len l.contents ≡ l._place;
  room : 64 ≤ vec_capacity l.contents;
}
