-- Invariant of each turn of the loop in `fit_in`: whether the rest fits is whether all fit.
use Rattle.std.proofs.Common.{◌≡◌, drop}
use Rattle.dispatch.specs.Premises.{fit_in}
use Rattle.dispatch.proofs.premises.fit_in.Given as goal

abbrev pub invariant-loop-account : goal.invariant-loop-account
invariant-loop-account l =
    fit_in l.room (drop l.account-index l.accounts) ≡ fit_in l.fn.room l.accounts
