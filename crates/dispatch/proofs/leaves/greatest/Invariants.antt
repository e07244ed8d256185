-- Invariant of each turn of the loop in `greatest`: the greatest clock so far, raised by the rest,
-- is that of all.
use Rattle.std.proofs.Common.{◌≡◌, drop}
use Rattle.dispatch.specs.Reservation.{leaves_of}
use Rattle.dispatch.specs.Rule.{greatest_from, greatest}
use Rattle.dispatch.proofs.leaves.greatest.Given as goal

abbrev pub invariant-loop-account : goal.invariant-loop-account
invariant-loop-account l =
    greatest_from l.greatest l.amount (leaves_of (drop l.account-index l.accounts))
    ≡ greatest l.amount (leaves_of l.accounts)
