-- A seat that looked in vain still waits with its ticket, and goes inside as from there.
use Rattle.std.proofs.Common.{◌≡◌, ℕ, List, [], ◌∷◌, map, refl, sym, ap, ◌∙◌, subst}
use Rattle.atomic_table.specs.Table.{Me}
use Rattle.bw_ticket.specs.declared.board.SeatView.{SeatView}
use Rattle.bw_ticket.specs.declared.board.SlotValue.{SlotValue}
use Rattle.bw_ticket.specs.declared.board.Phase.TheVariants.{Waiting}
use Rattle.bw_ticket.specs.Plays.{entered, goes, missed, MayMark}
use Rattle.bw_ticket.proofs.sleeping.enter.Goals as goal

module _ {M C R : Type 0} (t : ℕ) (p : SeatView M C R)
    (start me new : Me (SlotValue M C R) (List (SeatView M C R))) (s : start ≡ (p ∷ [], []))
    (looked : me ≡ (map (goes missed) start.0, [])) where
  missed_it : me ≡ (goes missed p ∷ [], [])
  missed_it = looked ∙ ap (λ m. (map (goes missed) m.0, [])) s

  as_before : (y : SlotValue M C R) → new ≡ (map (entered t y) me.0, (0, y) ∷ [])
      → new ≡ (map (entered t y) start.0, (0, y) ∷ [])
  as_before y e = e ∙ (ap (λ m. (map (entered t y) m.0, (0, y) ∷ [])) missed_it
      ∙ sym (ap (λ m. (map (entered t y) m.0, (0, y) ∷ [])) s))

pub wait_turn-requires-clause-waits : goal.wait_turn-requires-clause-waits
wait_turn-requires-clause-waits g c κs within =
    let w = c.requires.waits in let t : ℕ = c.args.ticket in (
      goes missed w.0,
      c.if-is_served.ensures.looked.0 ∙ ap (λ m. (map (goes missed) m.0, [])) w.1,
      subst (λ f. MayMark t (missed f)) (sym w.2) refl,
    )

pub returns-clause-inside : goal.returns-clause-inside
returns-clause-inside g c =
    let w = c.requires.waits in let v = c.wait_turn.ensures.inside in (
      v.0,
      as_before c.args.ticket w.0 c.args.seat.now.me c.look-is_served.new.seat.me
          c.wait_turn.new.seat.me w.1 c.if-is_served.ensures.looked.0 v.0 v.1,
      v.2,
      v.3,
    )
