-- The rule allows the step tell.
use Rattle.std.proofs.Common.{arith, sym, ap, ◌∙◌}
use Rattle.bw_ticket.proofs.Allowed.{may_tell}
use Rattle.bw_ticket.proofs.lock.Seat.tell.Goals as goal

pub split_seat-requires : goal.split_seat-requires
split_seat-requires g c = (
  ap (λ v. v.lock_id) c.self.view_is ∙ (c.requires ∙ sym (ap (λ v. v.lock_id) c.lock.view_is)),
  omega (arith, c.lock.invariant.0),
  may_tell g.M.Machine.after g.M.Machine.answer _ _ _,
)
