-- Invariant of each turn of the loop in `pass_all`: the time has passed for the leaves so far.
use Rattle.std.proofs.Common.{◌≡◌, ◌++◌, map, take, drop}
use Rattle.dispatch.specs.Reservation.{passed_in}
use Rattle.dispatch.proofs.accounts.pass_all.Given as goal

abbrev pub invariant-loop-account : goal.invariant-loop-account
invariant-loop-account l =
    l.accounts
    ≡ map (passed_in l.terms l.ns) (take l.account-index l.fn.accounts)
    ++ drop l.account-index l.fn.accounts
