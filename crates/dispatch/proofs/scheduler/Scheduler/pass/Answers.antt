-- The goal of `pass` that is answered by hand.
use Rattle.std.proofs.Common.{◌≡◌, sym, subst, map, ap, ◌∙◌, length, drop}
use Rattle.std.proofs.lemmas.List.{length-map}
use Rattle.std.specs.List.{All}
use Rattle.dispatch.specs.Reservation.{passed_in}
use Rattle.dispatch.proofs.Happens.{passed_amounts, written, HasAmount}
use Rattle.dispatch.proofs.scheduler.Scheduler.pass.Goals as goal

pub invariant_of-self : goal.invariant_of-self
invariant_of-self c =
    let is : c.pass_all.new.accounts
    ≡ map (passed_in c.terms-terms.result c.args.ns) c.self.inside.accounts.items =
    c.pass_all.ensures
    ∙ ap (map (passed_in c.terms-terms.result c.args.ns)) c.deref_mut.ensures.value in
    let len : c.self.inside.accounts.len ≡ length c.pass_all.new.accounts =
    sym (ap length c.pass_all.ensures
    ∙ (length-map c.deref_mut.result.now (passed_in c.terms-terms.result c.args.ns)
    ∙ c.deref_mut.ensures.len)) in
    subst (All HasAmount)
    (sym (written c.pass_all.new.accounts
    (drop (length c.pass_all.new.accounts) c.self.inside.accounts.items)
    c.self.inside.accounts.len len))
    (subst (All HasAmount) (sym is)
    (passed_amounts c.terms-terms.result c.args.ns c.self.inside.accounts.items
    c.self.invariant))
