-- The rule allows the step hear.
use Rattle.std.proofs.Common.{arith, sym, ap, ◌∙◌}
use Rattle.bw_ticket.proofs.Allowed.{may_hear}
use Rattle.bw_ticket.proofs.lock.Seat.hear.Goals as goal

pub join_seat-requires : goal.join_seat-requires
join_seat-requires g c = (
  ap (λ v. v.lock_id) c.self.view_is
      ∙ (c.requires.lock ∙ sym (ap (λ v. v.lock_id) c.lock.view_is)),
  ap (λ v. v.lock_id) c.news.view_is
      ∙ (c.requires.news ∙ sym (ap (λ v. v.lock_id) c.lock.view_is)),
  ap (λ m. m.1) c.news.invariant,
  omega (arith, c.lock.invariant.0),
  may_hear g.M.Machine.after g.M.Machine.answer _ _ _ _ _ _ _ (ap (λ m. m.0) c.self.invariant.0)
      (ap (λ m. m.0) c.news.invariant),
)
