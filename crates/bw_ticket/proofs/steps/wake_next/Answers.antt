-- After three wakes nothing is owed.
use Rattle.std.proofs.Common.{arith, ◌≡◌, ℕ, suc, ◌+◌, ◌<◌, ◌≤◌, List, [], ◌∷◌, map, refl, sym, ap, ◌∙◌}
use Rattle.std.proofs.Common.{if◌then◌else◌}
use Rattle.std.proofs.lemmas.Bool.{le-leb, le-ltb}
use Rattle.bw_ticket.specs.declared.board.Phase.{Phase}
use Rattle.bw_ticket.specs.declared.board.SeatView.{SeatView}
use Rattle.bw_ticket.specs.declared.board.Phase.TheVariants.{Idle, Served, Owes}
use Rattle.bw_ticket.specs.Plays.{placed, goes, saw_next, paid}
use Rattle.atomic_table.specs.Table.{Me}
use Rattle.bw_ticket.specs.declared.board.SlotValue.{SlotValue}
use Rattle.bw_ticket.proofs.steps.wake_next.Goals as goal

abbrev Held : Type 0 → Type 0 → Type 0 → Type 0
Held M C R = Me (SlotValue M C R) (List (SeatView M C R))

module _ {M C R : Type 0} where
  abbrev Seated : Held M C R → Phase M C R → Type 0
  Seated m f = (p : SeatView M C R) × (m ≡ (p ∷ [], [])) × (p.phase ≡ f)

  -- a seat of the view p, but with this phase
  abbrev Stood : SeatView M C R → Held M C R → Phase M C R → Type 0
  Stood p m f = (h : Phase M C R) × (m ≡ (placed h p ∷ [], [])) × (h ≡ f)

  to_seat : (p : SeatView M C R) (s : Held M C R) (f : Phase M C R) → Stood p s f → Seated s f
  to_seat p s f w = (placed w.0 p, w.1, w.2)

  -- the ticket after the own one is drawn
  owes_three : (t n : ℕ) (a b : Held M C R) (w : Seated a (Served t)) → t + 1 < n
      → b ≡ (map (goes (saw_next n)) a.0, [])
      → Stood w.0 b (Owes (t + 1) 3)
  owes_three t n a b w lt e = (
    saw_next n w.0.phase,
    e ∙ ap (λ m. (map (goes (saw_next n)) m.0, [])) w.1,
    ap (saw_next n) w.2
        ∙ ap (λ h. if h then Owes (t + 1) 3 else Idle) (le-leb (suc (t + 1)) n (omega arith)),
  )

  -- it is not drawn
  owes_none : (t n : ℕ) (a b : Held M C R) (w : Seated a (Served t)) → n ≤ t + 1
      → b ≡ (map (goes (saw_next n)) a.0, []) → b ≡ (map (placed Idle) a.0, [])
  owes_none t n a b w le e =
      let idle : saw_next n w.0.phase ≡ Idle = ap (saw_next n) w.2
      ∙ ap (λ h. if h then Owes (t + 1) 3 else Idle) (le-ltb (t + 1) n le) in
      e ∙ (ap (λ m. (map (goes (saw_next n)) m.0, [])) w.1
      ∙ (ap (λ f. (placed f w.0 ∷ [], [])) idle
      ∙ sym (ap (λ m. (map (placed Idle) m.0, [])) w.1)))

  -- one more wake is paid
  pays : (p : SeatView M C R) (a b : Held M C R) (f h : Phase M C R) → Stood p a f
      → b ≡ (map (goes paid) a.0, []) → paid f ≡ h → Stood p b h
  pays p a b f h w e to = (paid w.0, e ∙ ap (λ m. (map (goes paid) m.0, [])) w.1, ap paid w.2 ∙ to)

  -- the ticket of the next wake
  onward : (x y n : ℕ) → x + 1 ≡ y
      → paid {M = M} {C = C} {R = R} (Owes x (suc (suc n))) ≡ Owes y (suc n)
  onward x y n e = ap (λ (z : ℕ). Owes z (suc n)) e

pub returns-then-not-is_drawn-clause-idle : goal.returns-then-not-is_drawn-clause-idle
returns-then-not-is_drawn-clause-idle g c =
    let below = c.if-not-is_drawn.ensures in
    owes_none c.args.served c.peek_next-behind.result.next c.args.seat.now.me
    c.peek_next-behind.new.seat.me c.requires.served
    (omega (arith, below, c.peek_next-behind.ensures.left)) c.peek_next-behind.ensures.saw

pub wake-requires-clause-owes : goal.wake-requires-clause-owes
wake-requires-clause-owes g c κs within =
    let w = c.requires.served in let t : ℕ = c.args.served in let above = c.if-not-is_drawn.ensures in
    let first = owes_three t c.peek_next-behind.result.next c.args.seat.now.me c.peek_next-behind.new.seat.me
    w (omega (arith, above, c.peek_next-behind.ensures.left)) c.peek_next-behind.ensures.saw in
    (3, to_seat w.0 c.peek_next-behind.new.seat.me (Owes (t + 1) 3) first)

pub wake-requires-2-clause-owes : goal.wake-requires-2-clause-owes
wake-requires-2-clause-owes g c κs within =
    let w = c.requires.served in let t : ℕ = c.args.served in let above = c.if-not-is_drawn.ensures in
    let first = owes_three t c.peek_next-behind.result.next c.args.seat.now.me c.peek_next-behind.new.seat.me
    w (omega (arith, above, c.peek_next-behind.ensures.left)) c.peek_next-behind.ensures.saw in
    let second = pays w.0 c.peek_next-behind.new.seat.me c.wake.new.seat.me (Owes (t + 1) 3)
    (Owes (t + 2) 2) first c.wake.ensures.paid
    (onward (t + 1) (t + 2) 1 (omega arith)) in
    (2, to_seat w.0 c.wake.new.seat.me (Owes (t + 2) 2) second)

pub wake-requires-3-clause-owes : goal.wake-requires-3-clause-owes
wake-requires-3-clause-owes g c κs within =
    let w = c.requires.served in let t : ℕ = c.args.served in let above = c.if-not-is_drawn.ensures in
    let first = owes_three t c.peek_next-behind.result.next c.args.seat.now.me c.peek_next-behind.new.seat.me
    w (omega (arith, above, c.peek_next-behind.ensures.left)) c.peek_next-behind.ensures.saw in
    let second = pays w.0 c.peek_next-behind.new.seat.me c.wake.new.seat.me (Owes (t + 1) 3)
    (Owes (t + 2) 2) first c.wake.ensures.paid
    (onward (t + 1) (t + 2) 1 (omega arith)) in
    let third = pays w.0 c.wake.new.seat.me c.wake-2.new.seat.me (Owes (t + 2) 2) (Owes (t + 3) 1)
    second c.wake-2.ensures.paid
    (onward (t + 2) (t + 3) 0 (omega arith)) in
    (1, to_seat w.0 c.wake-2.new.seat.me (Owes (t + 3) 1) third)

pub returns-clause-idle : goal.returns-clause-idle
returns-clause-idle g c = let w = c.requires.served in let t : ℕ = c.args.served in
    let above = c.if-not-is_drawn.ensures in
    let first = owes_three t c.peek_next-behind.result.next c.args.seat.now.me c.peek_next-behind.new.seat.me
    w (omega (arith, above, c.peek_next-behind.ensures.left)) c.peek_next-behind.ensures.saw in
    let second = pays w.0 c.peek_next-behind.new.seat.me c.wake.new.seat.me (Owes (t + 1) 3)
    (Owes (t + 2) 2) first c.wake.ensures.paid
    (onward (t + 1) (t + 2) 1 (omega arith)) in
    let third = pays w.0 c.wake.new.seat.me c.wake-2.new.seat.me (Owes (t + 2) 2) (Owes (t + 3) 1)
    second c.wake-2.ensures.paid
    (onward (t + 2) (t + 3) 0 (omega arith)) in
    let last = pays w.0 c.wake-2.new.seat.me c.wake-3.new.seat.me (Owes (t + 3) 1) Idle third
    c.wake-3.ensures.paid refl in
    last.1 ∙ (ap (λ f. (placed f w.0 ∷ [], [])) last.2
    ∙ sym (ap (λ m. (map (placed Idle) m.0, [])) w.1))
