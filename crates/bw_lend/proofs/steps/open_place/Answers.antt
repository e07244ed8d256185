-- The rule allows the step open.
use Rattle.std.proofs.Common.{arith, refl}
use Rattle.bw_lend.proofs.Kept.{may_open}
use Rattle.bw_lend.proofs.steps.open_place.Goals as goal

pub store-requires : goal.store-requires
store-requires g c = (
  c.requires.table.0,
  omega (arith, c.requires.table.1.0, c.requires.place),
  may_open c.args.table.now.key.value.lock_id _ _ _ _ _ c.requires.fresh c.requires.place refl,
)
