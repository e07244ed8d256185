-- What stands at each turn of the loop in `add_in_turn`.
use Rattle.std.proofs.Common.{◌≡◌, None}
use Rattle.std.specs.List.{All}
use Rattle.bw_thread_tests.proofs.lock_cases.add_in_turn.Given as goal

abbrev pub invariant-loop-i : goal.invariant-loop-i
invariant-loop-i g l = All (λ s. s.lock_id ≡ l.lock.lock_id) l.seats.items
    × All (λ s. s.pending ≡ None) l.seats.items
