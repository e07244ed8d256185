-- The step enter keeps the rule.
use Rattle.std.proofs.Common.{◌≡◌, ℕ, ◌+◌, ◌<◌, ◌≤◌, ◌==◌, List}
use Rattle.std.proofs.Common.{[], ◌∷◌, length, set, slice_index, sym}
use Rattle.std.proofs.Common.{ap, ◌∙◌, subst, arith}
use Rattle.std.specs.Prelude.{vec_capacity}
use mathlib.Core.Option.{some, none}
use lib.ListN.{get_elem?}
use Rattle.atomic_table.specs.Table.{State}
use Rattle.bw_ticket.specs.declared.board.SlotValue.{SlotValue}
use Rattle.bw_ticket.specs.declared.board.SeatView.{SeatView}
use Rattle.bw_ticket.specs.declared.board.About.{About}
use Rattle.bw_wake.specs.Progress.{one_if}
use Rattle.bw_ticket.specs.Rule.{is_seat, weigh_all, waits, is_inside}
use Rattle.bw_ticket.specs.Rule.{is_done, holds}
use Rattle.bw_ticket.specs.Rule.{Queue, Ruled}
use Rattle.bw_ticket.specs.Plays.{entered}
use Rattle.bw_ticket.proofs.Views.{weigh_set, weigh_at}
use Rattle.bw_ticket.proofs.Views.{each_set}
use Rattle.bw_ticket.proofs.Queues.{queue_turn, queue_enter}
use Rattle.bw_ticket.proofs.OwedCounts.{read_stands, waits-holds}
use Rattle.bw_ticket.proofs.OwedCounts.{waits-no_peek, owed_still}
use Rattle.bw_ticket.proofs.KeptLemmas.{still_seat, busy_seat, below, loaded, waits_only, waits_is, Fit}

module _ {M C R : Type 0} (after : M → ℕ → C → M) (answer : M → ℕ → C → R) (about : About M) where
  -- step enter
  pub enter_keeps : (id : ℕ) (p : SeatView M C R) (t : ℕ)
      (s : State (SlotValue M C R) (List (SeatView M C R))) → waits t p.phase ≡ 1 →
      get_elem? s.views id ≡ some (p ∷ []) → slice_index s.words 1 ≡ t
      → Ruled after answer about s
      → (y : SlotValue M C R) × (get_elem? s.homes 0 ≡ some (some y)) × (length y.history.items ≡ t)
      × (t < vec_capacity y.history) × (p.reached ≤ t)
      × Ruled after answer about record {
        words = set s.words 1 (slice_index s.words 1);
        homes = set s.homes 0 none;
        views =
            set s.views id (entered t y p ∷ []);
      }
  enter_keeps id p t s is at found r =
      let serving_is : r.serving ≡ t = sym (ap (λ ws. slice_index ws 1) r.words) ∙ found in
      let here = weigh_at (λ y. waits r.serving y.phase) s.views id (p ∷ []) at in
      let mine : waits r.serving p.phase ≡ 1 = ap (λ (x : ℕ). waits x p.phase) serving_is ∙ is in
      let only = waits_only p.phase r.serving mine in
      let free = waits_is t p.phase is in
      let turn = queue_turn (λ x. weigh_all (λ y. waits x y.phase) s.views) (r.inside + r.done)
      r.serving r.next r.queue in
      let busy : r.inside + r.done ≡ 0 = omega arith in
      let out : r.inside ≡ 0 = omega arith in
      let undone : r.done ≡ 0 = omega arith in
      let got = r.home out in
      let y = got.0 in
      let stands = got.2 in
      let q = entered t y p in
      let moved = λ (g : SeatView M C R → ℕ). weigh_set g s.views id (p ∷ []) (q ∷ []) at in
      let fit = (r.each id (p ∷ []) at).0 in
      let queue0 : Queue (λ x. weigh_all (λ y. waits x y.phase) s.views) 0 r.serving r.next =
      subst (λ b. Queue (λ x. weigh_all (λ y. waits x y.phase) s.views) b r.serving r.next) busy
      r.queue in
      let long : length y.history.items ≡ t = ap length stands.0 ∙ omega (arith, r.count) in
      let calls = r.calls_are in
      let ahead : r.serving < r.next =
      below r.serving r.next r.queue.ahead
      (λ h. let z = r.queue.future r.serving (omega arith) in omega arith) in
      let big = stands.2 in (
        y,
        ap (λ hs. get_elem? hs 0) got.1,
        long,
        omega arith,
        omega (arith, fit.behind),
        record {
          next = r.next;
          serving = r.serving;
          inside = 1;
          done = 0;
          history = r.history;
          wake_words = r.wake_words;
          one_each = r.one_each;
          few = r.few;
          words = loaded s.words r.next r.serving r.wake_words r.words;
          bounded = r.bounded;
          seats_are = let h = moved is_seat in omega (arith, r.seats_are);
          calls_are = let h = moved (λ x. x.left) in omega arith;
          numbers = λ x lt. let h = moved (λ y. one_if (y.number == x)) in let k = r.numbers x lt in
              omega arith;
          inside_is = let h = moved (λ y. is_inside y.phase) in let k = free.1 in
              omega (arith, r.inside_is);
          done_is = let h = moved (λ y. is_done y.phase) in let k = free.2 in
              omega (arith, r.done_is);
          queue = queue_enter (λ x. weigh_all (λ y. waits x y.phase) s.views)
              (λ x. weigh_all (λ y. waits x y.phase) (set s.views id (q ∷ []))) r.serving
              r.next queue0 (omega arith)
              (λ x. let h = moved (λ y. waits x y.phase) in let k = only x in omega arith);
          drawn = let h = moved (λ y. holds y.phase) in let k = waits-holds t p.phase is in
              omega (arith, r.drawn);
          owed = owed_still s.views id p q r.serving s.words (set s.words 1 (slice_index s.words 1))
              at (omega arith)
              (let k = waits-no_peek t r.serving p.phase is in omega arith)
              (read_stands s.words 1 r.serving) r.owed;
          count = omega (arith, r.count);
          legal = r.legal;
          callers = r.callers;
          each = each_set (Fit after about r.serving r.history)
              (Fit after about r.serving r.history) s.views id (q ∷ [])
              r.each (λ j v ne e h. h) (
                record {
                  numbered = still_seat about.seats p q fit.numbered (λ i. p.number) (busy_seat p (waits-holds t p.phase is));
                  within = fit.within;
                  behind = fit.behind;
                  own = fit.own;
                  acts = (sym serving_is, stands);
                },
                tt,
              );
          home = λ h. absurd (omega arith);
          away = λ h. ap (λ hs. set hs 0 none) got.1;
        },
      )
