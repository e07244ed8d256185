-- The rule allows the step post.
use Rattle.std.proofs.Common.{arith, ◌≡◌, ℕ, [], ◌∷◌, ap, ◌∙◌, refl, sym, subst}
use Rattle.atomic_table.specs.Table.{rest}
use Rattle.bw_lend.specs.declared.stake.Part.TheVariants.{Owns}
use Rattle.bw_lend.specs.declared.table.Place.TheVariants.{Lent}
use Rattle.bw_lend.specs.Lent.{HasTicket}
use Rattle.bw_lend.specs.Rule.{stake}
use Rattle.bw_lend.proofs.Kept.{may_post}
use Rattle.bw_lend.proofs.steps.post.Goals as goal

pub store-requires : goal.store-requires
store-requires g c = let k = c.args.place in let seat = c.args.seat in
    let lies : c.exchange-empty.new.seat.me ≡ (stake seat.lock_id k Owns ∷ [], (k, Lent seat) ∷ []) =
    c.exchange-empty.ensures.3
    ∙ ap (λ m. (m.0, (k, Lent seat) ∷ rest m.1)) c.requires.owner.1 in (
      c.exchange-empty.ensures.0 ∙ c.requires.table.0,
      omega (arith, c.requires.table.1.0, c.requires.place),
      may_post c.args.table.now.key.value.lock_id _ _ seat.lock_id k _ seat _ lies c.requires.place
          (omega (arith, c.requires.table.1.1, c.requires.place)) c.state_of.ensures.code refl
          c.requires.pending
          (subst (λ (t : ℕ). HasTicket seat t) (sym c.state_of.ensures.ticket) c.requires.ticket),
    )
