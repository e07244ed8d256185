-- Invariant of each turn of the loop in `greatest_clock`: the greatest clock so far, raised by the
-- rest, is that of all.
use Rattle.std.proofs.Common.{◌≡◌, drop}
use Rattle.dispatch.specs.Reservation.{greatest_clock}
use Rattle.dispatch.proofs.scheduler.greatest_clock.Given as goal

abbrev pub invariant-loop-account : goal.invariant-loop-account
invariant-loop-account l =
    greatest_clock l.greatest (drop l.account-index l.accounts)
    ≡ greatest_clock (0, 1) l.accounts
