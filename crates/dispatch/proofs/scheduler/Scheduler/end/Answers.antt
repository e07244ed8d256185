-- The goals of `end` that are answered by hand.
use Rattle.std.proofs.Common.{rules, sym, ◌∙◌, ap, ◌≡◌, Ok, None, slice_get, slice_set}
use Rattle.dispatch.specs.Reservation.{Reservations, terms_of}
use Rattle.dispatch.specs.Steps.{account_ended}
use Rattle.dispatch.specs.Steps.{run_of}
use Rattle.dispatch.proofs.Happens.{end_happens, ended_amounts}
use Rattle.dispatch.proofs.scheduler.Scheduler.end.Goals as goal

pub invariant_of-self : goal.invariant_of-self
invariant_of-self c =
    let is : account_ended (terms_of c.args.self.now) c.in_ok-run.run' c.args.used c.args.remains
    (slice_get c.self.inside.accounts.items c.in_ok-run.run'.leaf) ≡ Ok c.in_ok-ended.ended =
    search rules in
    ended_amounts (terms_of c.args.self.now) c.in_ok-run.run' c.args.used c.args.remains
    c.self.inside.accounts.items c.in_ok-run.run'.leaf c.in_ok-ended.ended c.self.invariant is

pub returns-clause-state : goal.returns-clause-state
returns-clause-state c =
    let runs : run_of (slice_get c.args.self.now.processors c.args.processor)
    ≡ Ok c.in_ok-run.run' = search rules in
    let is : account_ended (terms_of c.args.self.now) c.in_ok-run.run' c.args.used c.args.remains
    (slice_get c.args.self.now.accounts c.in_ok-run.run'.leaf) ≡ Ok c.in_ok-ended.ended =
    search rules in
    ap (λ (s : Reservations). record s {
      accounts = slice_set s.accounts c.in_ok-run.run'.leaf c.in_ok-ended.ended;
      processors = slice_set s.processors c.args.processor None;
    }) c.self.view_is
    ∙ sym (end_happens c.args.self.now c.args.processor c.args.used c.args.remains
    c.in_ok-run.run' c.in_ok-ended.ended runs is)
