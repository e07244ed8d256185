-- Invariant of each turn of the loop in `level`: the least clock so far, lowered by the rest, is
-- that of all.
use Rattle.std.proofs.Common.{◌≡◌, drop}
use Rattle.dispatch.specs.Reservation.{leaves_of}
use Rattle.dispatch.specs.Rule.{level_from, level}
use Rattle.dispatch.proofs.leaves.level.Given as goal

abbrev pub invariant-loop-account : goal.invariant-loop-account
invariant-loop-account l =
    level_from l.least l.slice l.amount (leaves_of (drop l.account-index l.accounts))
    ≡ level l.slice l.amount (leaves_of l.accounts)
