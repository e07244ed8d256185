-- The rule allows the step give back.
use Rattle.std.proofs.Common.{arith, sym, subst, ℕ}
use Rattle.bw_lend.specs.Lent.{HasTicket, IsMade}
use Rattle.bw_lend.proofs.Kept.{may_give_back, is_home, made_code}
use Rattle.bw_lend.proofs.steps.give_back.Goals as goal

pub store-requires : goal.store-requires
store-requires g c = let w = c.requires.helper in let state = c.returned_state.ensures in (
  c.requires.table.0,
  omega (arith, c.requires.table.1.0, c.requires.place),
  may_give_back c.args.table.now.key.value.lock_id _ _ w.0 _ _ w.2.0 w.2.1 w.1.0 w.1.1 _ w.2.2
      c.requires.place (omega (arith, c.requires.table.1.1, c.requires.place))
      (is_home c.args.made _ state.code) (
        w.2.3,
        subst (λ (t : ℕ). HasTicket w.2.0 t) (sym state.ticket) w.2.4,
        subst (λ made. IsMade made w.2.1) (sym (made_code c.args.made _ state.code)) w.2.5,
      ),
)
