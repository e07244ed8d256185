-- The goal of `wake` that is answered by hand.
use Rattle.std.proofs.Common.{rules, sym, ◌∙◌, ap, ◌≡◌, Ok, slice_get}
use Rattle.dispatch.specs.Reservation.{Reservations, terms_of, with_account}
use Rattle.dispatch.specs.Steps.{account_woken}
use Rattle.dispatch.proofs.Happens.{wake_happens}
use Rattle.dispatch.proofs.scheduler.Scheduler.wake.Goals as goal

pub returns-clause-state : goal.returns-clause-state
returns-clause-state c =
    let is : account_woken (terms_of c.args.self.now) c.args.self.now.accounts c.args.tasks
    (slice_get c.args.self.now.accounts c.args.leaf) ≡ Ok c.in_ok-woken.woken = search rules in
    ap (λ (s : Reservations). with_account s c.args.leaf c.in_ok-woken.woken) c.self.view_is
    ∙ sym (wake_happens c.args.self.now c.args.leaf c.args.tasks c.in_ok-woken.woken is)
