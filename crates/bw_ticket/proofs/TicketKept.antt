-- The step ticket keeps the rule.
use Rattle.std.proofs.Common.{◌≡◌, ℕ, ◌+◌, ◌^◌, ◌%◌, ◌<◌, ◌≤◌, ◌==◌, List}
use Rattle.std.proofs.Common.{[], ◌∷◌, set, slice_index}
use Rattle.std.proofs.Common.{ap, arith}
use mathlib.Core.Option.{some}
use lib.ListN.{get_elem?}
use Rattle.atomic_table.specs.Table.{State}
use Rattle.bw_ticket.specs.declared.board.SlotValue.{SlotValue}
use Rattle.bw_ticket.specs.declared.board.SeatView.{SeatView}
use Rattle.bw_ticket.specs.declared.board.About.{About}
use Rattle.bw_ticket.specs.declared.board.Phase.TheVariants.{Idle}
use Rattle.bw_wake.specs.Progress.{one_if}
use Rattle.bw_ticket.specs.Rule.{is_seat, IsNews, weigh_all, waits, is_inside}
use Rattle.bw_ticket.specs.Rule.{is_done, holds, will_peek}
use Rattle.bw_ticket.specs.Rule.{Ruled}
use Rattle.bw_ticket.specs.Plays.{waiting}
use Rattle.bw_ticket.proofs.Views.{weigh_set, weigh_at}
use Rattle.bw_ticket.proofs.Views.{each_set}
use Rattle.bw_ticket.proofs.Queues.{queue_ticket}
use Rattle.bw_ticket.proofs.OwedCounts.{low_stands}
use Rattle.bw_ticket.proofs.OwedCounts.{owed_still}
use Rattle.bw_ticket.proofs.KeptLemmas.{still_seat, raised_first, Fit}

module _ {M C R : Type 0} (after : M → ℕ → C → M) (answer : M → ℕ → C → R) (about : About M) where
  -- step ticket
  pub ticket_keeps : (id : ℕ) (p : SeatView M C R)
      (s : State (SlotValue M C R) (List (SeatView M C R))) → p.phase ≡ Idle → 0 < p.left →
      get_elem? s.views id ≡ some (p ∷ [])
      → Ruled after answer about s
      → (p.reached ≤ slice_index s.words 0) × Ruled after answer about record {
        words = set s.words 0 ((slice_index s.words 0 + 1) % 2 ^ 64);
        homes =
            s.homes;
        views = set s.views id (waiting (slice_index s.words 0) p ∷ []);
      } × (slice_index s.words 0 < 2 ^ 22)
  ticket_keeps id p s idle some_left at r =
      let n : ℕ = slice_index s.words 0 in let q = waiting n p in
      let moved = λ (g : SeatView M C R → ℕ). weigh_set g s.views id (p ∷ []) (q ∷ []) at in
      let next_is : n ≡ r.next = ap (λ ws. slice_index ws 0) r.words in
      let lefts = moved (λ x. x.left) in
      let calls = r.calls_are in
      let bounded = r.bounded in
      let at_most = weigh_at (λ x. x.left) s.views id (p ∷ []) at in
      let fit = (r.each id (p ∷ []) at).0 in
      let ahead = r.queue.ahead in (
        omega (arith, fit.behind),
        record {
          next = r.next + 1;
          serving = r.serving;
          inside = r.inside;
          done = r.done;
          history = r.history;
          wake_words = r.wake_words;
          one_each = r.one_each;
          few = r.few;
          words = raised_first s.words r.next r.serving r.wake_words r.words (omega arith);
          bounded = r.bounded;
          seats_are = let h = moved is_seat in omega (arith, r.seats_are);
          calls_are = omega arith;
          numbers = λ x lt. let h = moved (λ y. one_if (y.number == x)) in let k = r.numbers x lt in
              omega arith;
          inside_is = let h = moved (λ y. is_inside y.phase) in let k = ap is_inside idle in
              omega (arith, r.inside_is);
          done_is = let h = moved (λ y. is_done y.phase) in let k = ap is_done idle in
              omega (arith, r.done_is);
          queue = queue_ticket (λ x. weigh_all (λ y. waits x y.phase) s.views)
              (λ x. weigh_all (λ y. waits x y.phase) (set s.views id (q ∷ [])))
              (r.inside + r.done) r.serving r.next r.queue
              (λ x. let h = moved (λ y. waits x y.phase) in let k = ap (waits x) idle in
              let m = ap (λ t. one_if (t == x)) next_is in omega arith);
          drawn = let h = moved (λ y. holds y.phase) in let k = ap holds idle in
              omega (arith, r.drawn);
          owed = owed_still s.views id p q r.serving s.words
              (set s.words 0 ((slice_index s.words 0 + 1) % 2 ^ 64)) at (omega arith)
              (let k = ap (will_peek r.serving) idle in omega arith)
              (low_stands s.words 0 ((slice_index s.words 0 + 1) % 2 ^ 64) r.serving (omega arith))
              r.owed;
          count = r.count;
          legal = r.legal;
          callers = r.callers;
          each = each_set (Fit after about r.serving r.history)
              (Fit after about r.serving r.history) s.views id (q ∷ [])
              r.each (λ j v ne e h. h) (
                record {
                  numbered = still_seat about.seats p q fit.numbered (λ i. p.number) (λ (w : IsNews p). let e = w.1 in omega arith);
                  within = omega (arith, fit.within);
                  behind = fit.behind;
                  own = fit.own;
                  acts = tt;
                },
                tt,
              );
          home = r.home;
          away = r.away;
        },
        omega arith,
      )
