-- What stands at each turn of the loop in `are_in_order`.
use Rattle.std.proofs.Common.{◌≡◌, ℕ, ◌<◌, length, get_or}
use Rattle.bw_cert.specs.Order.{IsInOrder}
use Rattle.bw_cert.proofs.in_order.are_in_order.Given as goal

abbrev pub invariant-loop-g : goal.invariant-loop-g
invariant-loop-g l = record {
  one_each : length l.depths.items ≡ length l.rows;
  each : (k : ℕ) → k < l.g → IsInOrder l.rows l.depths.items k (get_or l.depths.items k 0);
}
