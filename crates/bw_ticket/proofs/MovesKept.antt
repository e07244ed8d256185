-- The steps look, mark, peek next, peek word, take mark and woken keep the rule.
use Rattle.std.proofs.Common.{◌≡◌, ℕ, ◌+◌, ◌^◌, ◌<◌, ◌≤◌, ◌==◌, List}
use Rattle.std.proofs.Common.{[], ◌∷◌, length, set, slice_index}
use Rattle.std.proofs.Common.{ap, arith}
use Rattle.std.proofs.lemmas.Nat.{mod_below}
use mathlib.Core.Option.{some}
use lib.ListN.{get_elem?}
use Rattle.atomic_table.specs.Table.{State}
use Rattle.bw_ticket.specs.declared.board.SlotValue.{SlotValue}
use Rattle.bw_ticket.specs.declared.board.SeatView.{SeatView}
use Rattle.bw_ticket.specs.declared.board.About.{About}
use Rattle.bw_ticket.specs.declared.board.Phase.{Phase}
use Rattle.bw_ticket.specs.declared.limits.TheConstants.{MAX_SEATS}
use Rattle.bw_wake.specs.Progress.{one_if}
use Rattle.bw_ticket.specs.Rule.{is_seat, IsNews, weigh_all, waits, wake_word, is_inside}
use Rattle.bw_ticket.specs.Rule.{is_done, holds}
use Rattle.bw_ticket.specs.Rule.{IsOwed, Ruled}
use Rattle.bw_ticket.specs.Plays.{placed}
use Rattle.bw_ticket.proofs.Views.{weigh_set, weigh_at}
use Rattle.bw_ticket.proofs.Views.{each_set}
use Rattle.bw_ticket.proofs.Queues.{queue_turn, queue_same}
use Rattle.bw_ticket.proofs.KeptLemmas.{still_seat, acts_free, above, Alike, Shaped, room, Fit}

module _ {M C R : Type 0} (after : M → ℕ → C → M) (answer : M → ℕ → C → R) (about : About M) where
  -- a seat that waits has a ticket that was drawn, which is below the number of all calls
  pub waits_below : (id : ℕ) (p : SeatView M C R) (t : ℕ)
      (s : State (SlotValue M C R) (List (SeatView M C R))) → waits t p.phase ≡ 1 →
      get_elem? s.views id ≡ some (p ∷ []) → Ruled after answer about s → t + 1 < 2 ^ 32
  waits_below id p t s is at r =
      let here = weigh_at (λ y. waits t y.phase) s.views id (p ∷ []) at in
      let drawn : t < r.next = above t r.next (λ le. let z = r.queue.future t le in omega arith) in
      let calls = r.calls_are in let bounded = r.bounded in omega arith

  -- the word `serving`, and where a wake word is
  pub serving_word : (s : State (SlotValue M C R) (List (SeatView M C R)))
      (r : Ruled after answer about s) → slice_index s.words 1 ≡ r.serving
  serving_word s r = ap (λ ws. slice_index ws 1) r.words

  pub next_word : (s : State (SlotValue M C R) (List (SeatView M C R)))
      (r : Ruled after answer about s) → slice_index s.words 0 ≡ r.next
  next_word s r = ap (λ ws. slice_index ws 0) r.words

  pub word_there : (s : State (SlotValue M C R) (List (SeatView M C R))) (t : ℕ)
      → Ruled after answer about s → wake_word t < length s.words
  word_there s t r = let long = ap length r.words in
      let few = mod_below t MAX_SEATS (omega arith) in omega (arith, r.one_each)

  -- a ticket that somebody waits with is drawn, and at most one seat has the one that is served
  pub waits_drawn
      : (s : State (SlotValue M C R) (List (SeatView M C R))) (r : Ruled after answer about s) →
      1 ≤ weigh_all (λ y. waits r.serving y.phase) s.views → r.serving < slice_index s.words 0
  waits_drawn s r some_wait = let drawn : r.serving < r.next =
      above r.serving r.next (λ le. let z = r.queue.future r.serving le in omega arith) in
      omega (arith, next_word s r)

  pub one_waits
      : (s : State (SlotValue M C R) (List (SeatView M C R))) (r : Ruled after answer about s) →
      weigh_all (λ y. waits r.serving y.phase) s.views ≤ 1
  one_waits s r = let turn = queue_turn (λ x. weigh_all (λ y. waits x y.phase) s.views)
      (r.inside + r.done) r.serving r.next r.queue in omega arith

  -- the steps look, mark, peek next, peek word, take mark and woken: one seat goes to a phase that
  -- is alike, and a wake word may change
  pub moves : (id : ℕ) (p : SeatView M C R) (f : Phase M C R) (ws : List ℕ)
      (s : State (SlotValue M C R) (List (SeatView M C R))) →
      get_elem? s.views id ≡ some (p ∷ []) → (IsNews p → ⊥) → Alike p.phase f →
      ((a b : ℕ) → Shaped a b MAX_SEATS s.words → Shaped a b MAX_SEATS ws)
      → (r : Ruled after answer about s) → IsOwed r.serving ws (set s.views id (placed f p ∷ []))
      → Ruled after answer about record {
        words = ws;
        homes = s.homes;
        views = set s.views id (placed f p ∷ []);
      }
  moves id p f ws s at busy alike shape r owed = let q = placed f p in
      let moved = λ (g : SeatView M C R → ℕ). weigh_set g s.views id (p ∷ []) (q ∷ []) at in
      let fit = (r.each id (p ∷ []) at).0 in
      let now = shape r.next r.serving (r.wake_words, r.words, r.one_each) in
      record {
        next = r.next;
        serving = r.serving;
        inside = r.inside;
        done = r.done;
        history = r.history;
        wake_words = now.0;
        words = now.1;
        one_each = now.2;
        few = r.few;
        bounded = r.bounded;
        seats_are = let h = moved is_seat in omega (arith, r.seats_are);
        calls_are = let h = moved (λ x. x.left) in let k = r.calls_are in omega arith;
        numbers = λ x lt. let h = moved (λ y. one_if (y.number == x)) in let k = r.numbers x lt in
            omega arith;
        inside_is = let h = moved (λ y. is_inside y.phase) in let k = alike.outside in
            omega (arith, r.inside_is, k.0, k.1);
        done_is = let h = moved (λ y. is_done y.phase) in let k = alike.undone in
            omega (arith, r.done_is, k.0, k.1);
        queue = queue_same (λ x. weigh_all (λ y. waits x y.phase) s.views)
            (λ x. weigh_all (λ y. waits x y.phase) (set s.views id (q ∷ [])))
            (r.inside + r.done) r.serving r.next r.queue
            (λ x. let h = moved (λ y. waits x y.phase) in let k = alike.waits_as x in omega arith);
        drawn = let h = moved (λ y. holds y.phase) in omega (arith, r.drawn, alike.held);
        owed = owed;
        count = r.count;
        legal = r.legal;
        callers = r.callers;
        each = each_set (Fit after about r.serving r.history) (Fit after about r.serving r.history)
            s.views id (q ∷ [])
            r.each (λ j v ne e h. h) (
              record {
                numbered = still_seat about.seats p q fit.numbered (λ i. p.number) busy;
                within = fit.within;
                behind = fit.behind;
                own = fit.own;
                acts =
                    acts_free after about.opening.value (room about) r.serving r.history f
                    alike.outside.1 alike.undone.1;
              },
              tt,
            );
        home = r.home;
        away = r.away;
      }
