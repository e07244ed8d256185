-- What stands at each turn of the loop in `call_all`.
use Rattle.std.proofs.Common.{◌≡◌, None}
use Rattle.bw_thread_tests.proofs.lend_cases.call_all.Given as goal

abbrev pub invariant-loop : goal.invariant-loop
invariant-loop g l = (l.seat.lock_id ≡ l.lock.lock_id) × (l.seat.pending ≡ None)
