-- The rule allows the step claim.
use Rattle.std.proofs.Common.{arith}
use Rattle.bw_lend.proofs.Kept.{may_claim}
use Rattle.bw_lend.proofs.steps.claim.Goals as goal

pub compare_exchange-found-requires : goal.compare_exchange-found-requires
compare_exchange-found-requires g c = let w = c.requires.owner in (
  c.requires.table.0,
  omega (arith, c.requires.table.1.0, c.requires.place),
  may_claim c.args.table.now.key.value.lock_id _ _ c.args.lock.now.lock_id w.0 _ _ _ _ _ w.1.1
      c.requires.place c.state_of-posted.ensures.code c.state_of.ensures.code,
)
