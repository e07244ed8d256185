-- The end of a lock: one list has the views of all seats, and all seats are idle.
use Rattle.std.proofs.Common.{◌≡◌, ℕ, ◌-◌, ◌*◌, ◌<◌, ◌≤◌, List}
use Rattle.std.proofs.Common.{length, refl, sym}
use Rattle.std.proofs.Common.{ap, ◌∙◌, subst, arith}
use Rattle.std.specs.List.{All}
use mathlib.Core.Option.{some}
use lib.ListN.{get_elem?}
use Rattle.atomic_table.specs.Table.{State}
use Rattle.bw_ticket.specs.declared.board.SlotValue.{SlotValue}
use Rattle.bw_ticket.specs.declared.board.SeatView.{SeatView}
use Rattle.bw_ticket.specs.declared.board.About.{About}
use Rattle.bw_ticket.specs.declared.board.Phase.{Phase}
use Rattle.bw_ticket.specs.declared.board.Phase.TheVariants.{Idle}
use Rattle.bw_ticket.specs.Rule.{weigh, weigh_all, Each, waits, is_inside, is_seat, IsNews}
use Rattle.bw_ticket.specs.Seats.{IsSeated}
use Rattle.bw_ticket.specs.declared.limits.TheConstants.{MAX_SEATS}
use Rattle.bw_wake.specs.Progress.{one_if}
use Rattle.std.proofs.lemmas.Bool.{lt-ltb}
use Rattle.bw_ticket.specs.Rule.{is_done}
use Rattle.bw_ticket.specs.Rule.{Queue, Ruled}
use Rattle.bw_machine.specs.History.{replay, IsLegal, own_from}
use Rattle.bw_ticket.proofs.Views.{each_map}
use Rattle.bw_ticket.proofs.Views.{all_in_one, weigh_none, weigh_begun, weigh_same, weigh_at}
use Rattle.bw_ticket.proofs.Views.{each_both}
use Rattle.bw_ticket.proofs.Queues.{queue_empty}
use Rattle.bw_ticket.proofs.KeptLemmas.{Fit, a_seat, news_of_none}

-- What the idle seats of one view and the value of the slot are, where the view has all seats
pub record Ends {M C R : Type 0} (after : M → ℕ → C → M) (answer : M → ℕ → C → R) (about : About M)
    (v : List (SeatView M C R))
    (z : SlotValue M C R) : Type 0 where
  pub legal : IsLegal after answer about.opening.value z.history.items
  pub machine : z.machine ≡ replay after about.opening.value z.history.items
  pub callers : All (λ e. e.seat < about.seats) z.history.items
  pub own : Each (λ p. (p.number < about.seats) × (p.made ≡ own_from 0 p.number z.history.items)
      × (p.reached ≤ length z.history.items)) v
  pub whole : weigh (λ p. 1) v ≡ about.seats
  pub begun : length z.history.items ≡ weigh (λ p. about.calls - p.left) v

module _ {M C R : Type 0} (after : M → ℕ → C → M) (answer : M → ℕ → C → R) (about : About M) where
  -- the end: the seats of one view are as many as were opened, and idle
  pub closes : (id : ℕ) (v : List (SeatView M C R))
      (s : State (SlotValue M C R) (List (SeatView M C R))) → get_elem? s.views id ≡ some v →
      about.seats ≤ weigh (λ p. 1) v → Each IsSeated v → Each (λ p. p.phase ≡ Idle) v
      → Ruled after answer about s
      → (y : SlotValue M C R) × (get_elem? s.homes 0 ≡ some (some y)) × Ends after answer about v y
  closes id v s at all seated idle r =
      let in_seats : weigh is_seat v ≡ weigh (λ p. 1) v = weigh_same is_seat (λ p. 1) v
      (each_map IsSeated (λ p. is_seat p ≡ 1) v
      (λ p lt. ap one_if (lt-ltb p.number MAX_SEATS lt)) seated) in
      let whole = λ (g : SeatView M C R → ℕ) (zero_at : (p : SeatView M C R) → IsNews p → g p ≡ 0).
      all_in_one g s.views id v at (omega (arith, r.seats_are))
      (λ j w e. each_map (Fit after about r.serving r.history) (λ p. is_seat p ≡ 0 → g p ≡ 0) w
      (λ p f z. zero_at p (news_of_none about.seats p r.few f.numbered z)) (r.each j w e)) in
      let none = λ (g : Phase M C R → ℕ) (zero_at : g Idle ≡ 0). whole (λ p. g p.phase)
      (λ p w. ap g w.2 ∙ zero_at)
      ∙ weigh_none (λ p. g p.phase) v
      (each_map (λ p. p.phase ≡ Idle) (λ p. g p.phase ≡ 0) v (λ p e. ap g e ∙ zero_at) idle) in
      let out : r.inside ≡ 0 = sym r.inside_is ∙ none is_inside refl in
      let undone : r.done ≡ 0 = sym r.done_is ∙ none is_done refl in
      let W = λ (x : ℕ). weigh_all (λ p. waits x p.phase) s.views in
      let quiet : Queue W 0 r.serving r.next =
      subst (λ b. Queue W b r.serving r.next) (omega arith) r.queue in
      let all_served : r.serving ≡ r.next =
      queue_empty W r.serving r.next quiet (none (waits r.serving) refl) in
      let got = r.home out in
      let y = got.0 in
      let items : y.history.items ≡ r.history = got.2.0 in
      let long : r.serving ≡ length y.history.items = omega (arith, r.count, ap length items) in
      let fit = r.each id v at in
      let seats_are : weigh (λ p. 1) v ≡ about.seats =
      let up = weigh_at is_seat s.views id v at in omega (arith, r.seats_are) in
      let begun = weigh_begun about.calls v
      (each_map (Fit after about r.serving r.history) (λ p. p.left ≤ about.calls) v
      (λ p f. f.within) fit) in
      let rooms = ap (λ (n : ℕ). n * about.calls) seats_are in
      let left = whole (λ p. p.left) (λ p w. w.1) in
      let calls_are = r.calls_are in (
        y,
        ap (λ hs. get_elem? hs 0) got.1,
        record {
          legal = subst (IsLegal after answer about.opening.value) (sym items) r.legal;
          machine = got.2.1 ∙ ap (replay after about.opening.value) (sym items);
          callers = subst (All (λ e. e.seat < about.seats)) (sym items) r.callers;
          own = each_map (λ p. IsSeated p × Fit after about r.serving r.history p)
              (λ p. (p.number < about.seats) × (p.made ≡ own_from 0 p.number y.history.items)
              × (p.reached ≤ length y.history.items)) v
              (λ p f. (
                a_seat about.seats p f.1.numbered (λ (w : IsNews p). let a = f.0 in omega (arith, w.0)),
                f.1.own ∙ ap (own_from 0 p.number) (sym items),
                omega (arith, f.1.behind),
              )) (each_both IsSeated (Fit after about r.serving r.history) v seated fit);
          whole = seats_are;
          begun = omega arith;
        },
      )
