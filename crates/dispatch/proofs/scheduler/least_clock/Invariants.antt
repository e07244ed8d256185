-- Invariant of each turn of the loop in `least_clock`: the least clock so far, lowered by the rest,
-- is that of all.
use Rattle.std.proofs.Common.{◌≡◌, drop, None}
use Rattle.dispatch.specs.Reservation.{least_clock}
use Rattle.dispatch.proofs.scheduler.least_clock.Given as goal

abbrev pub invariant-loop-account : goal.invariant-loop-account
invariant-loop-account l =
    least_clock l.least l.slice (drop l.account-index l.accounts)
    ≡ least_clock None l.slice l.accounts
