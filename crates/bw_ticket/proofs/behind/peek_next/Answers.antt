-- The rule allows the step peek next.
use Rattle.std.proofs.Common.{arith}
use Rattle.bw_ticket.proofs.Allowed.{may_peek_next}
use Rattle.bw_ticket.proofs.behind.peek_next.Goals as goal

pub load-next-requires : goal.load-next-requires
load-next-requires g c = let w = c.requires.served in (
  c.requires.table.0,
  omega (arith, c.requires.table.1.0),
  may_peek_next g.M.Machine.after g.M.Machine.answer _ _ _ c.args.seat.now.me w.0 c.args.served w.1
      w.2,
)
