-- The rule allows the step hint.
use Rattle.std.proofs.Common.{arith}
use Rattle.bw_lend.proofs.Kept.{may_hint}
use Rattle.bw_lend.proofs.steps.store_hint.Goals as goal

pub store-requires : goal.store-requires
store-requires g c = (
  c.requires.table.0,
  omega (arith, c.requires.table.1.0, c.hint_word_of.ensures.range),
  may_hint c.args.table.now.key.value.lock_id _ _ c.args.lent.now.value.lock_id c.args.place
      c.args.ticket _ _ c.args.lent.now.value _ c.requires.lent c.requires.ticket
      c.hint_word_of.ensures.word c.hint_of.ensures,
)
