-- The rule allows the step peek word.
use Rattle.std.proofs.Common.{arith}
use Rattle.bw_ticket.proofs.Allowed.{may_peek_word}
use Rattle.bw_ticket.proofs.steps.wake.Goals as goal

pub load-found-requires : goal.load-found-requires
load-found-requires g c = let w = c.requires.owes in let q = w.1 in (
  c.requires.table.0,
  omega (arith, c.requires.table.1.0, c.wake_word_of.ensures.range),
  may_peek_word g.M.Machine.after g.M.Machine.answer _ _ _ c.args.seat.now.me q.0 c.args.ticket w.0
      _ q.1 q.2 c.wake_word_of.ensures.word,
)
