-- The rule allows the step woken.
use Rattle.std.proofs.Common.{arith}
use Rattle.bw_ticket.proofs.Allowed.{may_woken}
use Rattle.bw_ticket.proofs.sleeping.note_wake.Goals as goal

pub load-requires : goal.load-requires
load-requires g c = let w = c.requires.wakes in let q = w.1 in (
  c.requires.table.0,
  omega (arith, c.requires.table.1.0),
  may_woken g.M.Machine.after g.M.Machine.answer _ _ _ c.args.seat.now.me q.0 c.args.ticket w.0 q.1
      q.2,
)
