-- The rule allows the step mark.
use Rattle.std.proofs.Common.{arith}
use Rattle.bw_ticket.proofs.Allowed.{may_mark}
use Rattle.bw_ticket.proofs.steps.store_mark.Goals as goal

pub store-requires : goal.store-requires
store-requires g c = let w = c.requires.unmarked in (
  c.requires.table.0,
  omega (arith, c.requires.table.1.0, c.wake_word_of.ensures.range),
  may_mark g.M.Machine.after g.M.Machine.answer _ _ _ c.args.seat.now.me w.0 c.args.ticket _ _ w.1
      w.2 c.wake_word_of.ensures.word c.mark_of.ensures,
)
