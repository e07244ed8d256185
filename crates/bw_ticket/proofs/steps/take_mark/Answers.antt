-- The rule allows the step take mark.
use Rattle.std.proofs.Common.{arith}
use Rattle.bw_ticket.proofs.Allowed.{may_take_mark}
use Rattle.bw_ticket.proofs.steps.take_mark.Goals as goal

pub compare_exchange-requires : goal.compare_exchange-requires
compare_exchange-requires g c = let w = c.requires.found in let q = w.1 in (
  c.requires.table.0,
  omega (arith, c.requires.table.1.0, c.wake_word_of.ensures.range),
  may_take_mark g.M.Machine.after g.M.Machine.answer _ _ _ c.args.seat.now.me q.0 c.args.ticket w.0
      _ _ q.1 q.2 c.wake_word_of.ensures.word
      c.mark_of.ensures,
)
