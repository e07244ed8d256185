-- The goals of `pick` that are answered by hand.
use Rattle.std.proofs.Common.{rules, sym, ◌∙◌, ap, ◌≡◌, Ok, Some, slice_get, slice_set, ℕ}
use Rattle.dispatch.specs.Reservation.{Reservations, terms_of}
use Rattle.dispatch.specs.Steps.{account_picked, free_processor}
use Rattle.dispatch.specs.Steps.{paid_at}
use Rattle.dispatch.proofs.Happens.{pick_happens, picked_amounts}
use Rattle.dispatch.proofs.scheduler.Scheduler.pick.Goals as goal

pub invariant_of-self : goal.invariant_of-self
invariant_of-self c =
    let is : account_picked (terms_of c.args.self.now) c.args.self.now.accounts
    (slice_get c.self.inside.accounts.items c.args.leaf) ≡ Ok c.in_ok-picked.picked =
    search rules in
    picked_amounts (terms_of c.args.self.now) c.args.self.now.accounts
    c.self.inside.accounts.items c.args.leaf c.in_ok-picked.picked c.self.invariant is

pub returns-clause-state : goal.returns-clause-state
returns-clause-state c =
    let free : free_processor (slice_get c.args.self.now.processors c.args.processor) ≡ Ok tt =
    search rules in
    let is : account_picked (terms_of c.args.self.now) c.args.self.now.accounts
    (slice_get c.args.self.now.accounts c.args.leaf) ≡ Ok c.in_ok-picked.picked =
    search rules in
    let paid : c.paid_at-paid.result
    ≡ paid_at (terms_of c.args.self.now) (slice_get c.args.self.now.accounts c.args.leaf) =
    search rules in
    ap (λ (s : Reservations). record s {
      accounts = slice_set s.accounts c.args.leaf c.in_ok-picked.picked;
      processors = slice_set s.processors c.args.processor
          (Some (record { leaf = c.args.leaf; paid = c.paid_at-paid.result; age = 0 }));
    }) c.self.view_is
    ∙ (ap (λ (n : ℕ). record c.args.self.now {
      accounts = slice_set c.args.self.now.accounts c.args.leaf c.in_ok-picked.picked;
      processors = slice_set c.args.self.now.processors c.args.processor
          (Some (record { leaf = c.args.leaf; paid = n; age = 0 }));
    }) paid
    ∙ sym (pick_happens c.args.self.now c.args.processor c.args.leaf c.in_ok-picked.picked free
    is))
