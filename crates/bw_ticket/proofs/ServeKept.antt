-- The step serve keeps the rule.
use Rattle.std.proofs.Common.{◌≡◌, ◌≢◌, ℕ, ◌+◌, ◌^◌, ◌%◌, ◌<◌, ◌==◌, List}
use Rattle.std.proofs.Common.{[], ◌∷◌, set, slice_index, sym}
use Rattle.std.proofs.Common.{ap, ◌∙◌, subst, arith}
use mathlib.Core.Option.{some}
use lib.ListN.{get_elem?}
use Rattle.atomic_table.specs.Table.{State}
use Rattle.bw_ticket.specs.declared.board.SlotValue.{SlotValue}
use Rattle.bw_ticket.specs.declared.board.SeatView.{SeatView}
use Rattle.bw_ticket.specs.declared.board.About.{About}
use Rattle.bw_ticket.specs.declared.board.Phase.TheVariants.{Done}
use Rattle.bw_wake.specs.Progress.{one_if}
use Rattle.bw_ticket.specs.Rule.{is_seat, weigh_all, Each, waits, is_inside}
use Rattle.bw_ticket.specs.Rule.{is_done, ticket_of, holds, will_peek}
use Rattle.bw_ticket.specs.Rule.{Queue, Acts, Ruled}
use Rattle.bw_wake.proofs.CallerLemmas.{among_in}
use Rattle.bw_ticket.specs.Plays.{has_served}
use Rattle.bw_ticket.proofs.Views.{weigh_set, weigh_at, weigh_two, each_map, each_both, each_zero}
use Rattle.bw_ticket.proofs.Views.{each_set}
use Rattle.bw_ticket.proofs.Queues.{queue_turn}
use Rattle.bw_ticket.proofs.Queues.{queue_serve}
use Rattle.bw_ticket.proofs.KeptLemmas.{still_seat, busy_seat, raised_second, below, acts_at, room, Fit}

module _ {M C R : Type 0} (after : M → ℕ → C → M) (answer : M → ℕ → C → R) (about : About M) where
  -- step serve
  pub serve_keeps : (id : ℕ) (p : SeatView M C R) (t : ℕ)
      (s : State (SlotValue M C R) (List (SeatView M C R))) → p.phase ≡ Done t →
      get_elem? s.views id ≡ some (p ∷ [])
      → Ruled after answer about s
      → (slice_index s.words 1 ≡ t) × (t + 1 < 2 ^ 32) × Ruled after answer about record {
        words = set s.words 1 ((slice_index s.words 1 + 1) % 2 ^ 64);
        homes = s.homes;
        views =
            set s.views id (has_served p ∷ []);
      }
  serve_keeps id p t s is at r =
      let within = weigh_at (λ x. is_done x.phase) s.views id (p ∷ []) at in
      let mine : is_done p.phase ≡ 1 = ap is_done is in
      let turn = queue_turn (λ x. weigh_all (λ y. waits x y.phase) s.views) (r.inside + r.done)
      r.serving r.next r.queue in
      let count = r.done_is in
      let done_one : r.done ≡ 1 = omega arith in
      let out : r.inside ≡ 0 = omega arith in
      let fit = (r.each id (p ∷ []) at).0 in
      let acts : t ≡ r.serving =
      subst (Acts after about.opening.value (room about) r.serving r.history) is fit.acts in
      let at_ticket : ticket_of p.phase ≡ r.serving = ap ticket_of is ∙ acts in
      let q = has_served p in
      let moved = λ (g : SeatView M C R → ℕ). weigh_set g s.views id (p ∷ []) (q ∷ []) at in
      let calls = r.calls_are in
      let bounded = r.bounded in
      let ahead = r.queue.ahead in
      let found : slice_index s.words 1 ≡ t = ap (λ ws. slice_index ws 1) r.words ∙ sym acts in
      let drawn : r.serving < r.next =
      below r.serving r.next ahead (λ h. let z = r.queue.quiet h in omega arith) in
      let other = λ (j : ℕ) (v : List (SeatView M C R)) (ne : j ≢ id) (is_v : get_elem? s.views j
      ≡ some v) (h : Each (Fit after about r.serving r.history) v).
      let a = weigh_two (λ x. is_done x.phase) s.views id j (p ∷ []) v at is_v ne in
      let b = weigh_two (λ x. is_inside x.phase) s.views id j (p ∷ []) v at is_v ne in
      let d = r.inside_is in
      let undone = each_zero (λ x. is_done x.phase) v (omega arith) in
      let outside = each_zero (λ x. is_inside x.phase) v (omega arith) in
      each_map (λ x. (is_inside x.phase ≡ 0)
      × ((is_done x.phase ≡ 0) × Fit after about r.serving r.history x))
      (Fit after about (r.serving + 1) r.history) v
      (λ x w. let f = w.1.1 in record {
        numbered = f.numbered;
        within = f.within;
        behind = omega (arith, f.behind);
        own = f.own;
        acts = acts_at after about.opening.value (room about) r.serving (r.serving + 1) r.history
            x.phase w.0 w.1.0 f.acts;
      })
      (each_both (λ x. is_inside x.phase ≡ 0)
      (λ x. (is_done x.phase ≡ 0) × Fit after about r.serving r.history x) v outside
      (each_both (λ x. is_done x.phase ≡ 0) (Fit after about r.serving r.history) v undone h)) in (
        found,
        omega arith,
        record {
          next = r.next;
          serving = r.serving + 1;
          inside = 0;
          done = 0;
          history = r.history;
          wake_words = r.wake_words;
          one_each = r.one_each;
          few = r.few;
          words = raised_second s.words r.next r.serving r.wake_words r.words (omega arith);
          bounded = r.bounded;
          seats_are = let h = moved is_seat in omega (arith, r.seats_are);
          calls_are = let h = moved (λ x. x.left) in omega arith;
          numbers = λ x lt. let h = moved (λ y. one_if (y.number == x)) in let k = r.numbers x lt in
              omega arith;
          inside_is = let h = moved (λ y. is_inside y.phase) in let k = ap is_inside is in
              omega (arith, r.inside_is);
          done_is = let h = moved (λ y. is_done y.phase) in omega arith;
          queue = queue_serve (λ x. weigh_all (λ y. waits x y.phase) s.views)
              (λ x. weigh_all (λ y. waits x y.phase) (set s.views id (q ∷ []))) r.serving r.next
              (subst (λ b. Queue (λ x. weigh_all (λ y. waits x y.phase) s.views) b r.serving r.next)
              (omega arith) r.queue)
              (λ x. let h = moved (λ y. waits x y.phase) in let k = ap (waits x) is in omega arith);
          drawn = let h = moved (λ y. holds y.phase) in let k = ap holds is in
              omega (arith, r.drawn);
          owed = λ some_may stands. let h = moved (λ y. will_peek (r.serving + 1) y.phase) in
              let k = ap (will_peek (r.serving + 1)) is in
              let own = among_in (r.serving + 1) (ticket_of p.phase + 1) 3 (omega arith)
              (omega arith) in omega arith;
          count = omega (arith, r.count);
          legal = r.legal;
          callers = r.callers;
          each = each_set (Fit after about r.serving r.history)
              (Fit after about (r.serving + 1) r.history) s.views id (q ∷ []) r.each other (
                record {
                  numbered = still_seat about.seats p q fit.numbered (λ i. p.number) (busy_seat p (ap holds is));
                  within = fit.within;
                  behind = omega arith;
                  own = fit.own;
                  acts = tt;
                },
                tt,
              );
          home = λ h. r.home out;
          away = λ h. absurd (omega arith);
        },
      )
