-- The rule allows the step take back.
use Rattle.std.proofs.Common.{arith, refl, ℕ, Option, subst}
use Rattle.bw_lend.specs.Waits.{MayTakeBack}
use Rattle.bw_lend.proofs.Kept.{may_take_back, may_be_home}
use Rattle.bw_lend.proofs.steps.take_back.Goals as goal

pub compare_exchange-found-requires : goal.compare_exchange-found-requires
compare_exchange-found-requires g c = let found = g.W.PlaceWord.found c.args.word.now in
    let t = (g.V.Visit.state c.args.visit.now).ticket in (
      c.requires.table.0,
      omega (arith, c.requires.table.1.0, c.requires.place),
      may_take_back c.args.table.now.key.value.lock_id _ _ _ _ _ _ _ _ c.requires.lends c.requires.place
          (may_be_home c.args.state found t
          (subst (λ (x : Option ℕ). MayTakeBack x found t) c.requires.read c.requires.seen))
          refl,
    )
