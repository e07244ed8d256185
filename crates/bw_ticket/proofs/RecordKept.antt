-- The step record keeps the rule.
use Rattle.std.proofs.Common.{◌≡◌, ◌≢◌, ℕ, ◌+◌, ◌<◌, ◌≤◌, ◌==◌, List}
use Rattle.std.proofs.Common.{[], ◌∷◌, ◌++◌, length, drop, set, slice_index, refl, sym}
use Rattle.std.proofs.Common.{ap, ◌∙◌, subst, arith, length-append}
use Rattle.std.specs.Prelude.{vec_capacity}
use mathlib.Core.Option.{some}
use lib.ListN.{get_elem?}
use Rattle.atomic_table.specs.Table.{State}
use Rattle.bw_ticket.specs.declared.board.SlotValue.{SlotValue}
use Rattle.bw_ticket.specs.declared.board.SeatView.{SeatView}
use Rattle.bw_ticket.specs.declared.board.About.{About}
use Rattle.bw_ticket.specs.declared.board.Phase.TheVariants.{Inside}
use Rattle.bw_wake.specs.Progress.{one_if}
use Rattle.bw_ticket.specs.Rule.{is_seat, weigh_all, Each, waits, is_inside}
use Rattle.bw_ticket.specs.Rule.{is_done, ticket_of, holds, will_peek}
use Rattle.bw_ticket.specs.Rule.{Queue, Stands, Acts, Ruled}
use Rattle.bw_machine.specs.declared.history.Entry.{Entry}
use Rattle.bw_machine.specs.History.{replay, entry, own_from}
use Rattle.bw_machine.proofs.CallerLemmas.{replay-snoc, legal-snoc, own_from-snoc, own_from-other}
use Rattle.bw_ticket.specs.Plays.{recorded}
use Rattle.bw_ticket.proofs.Views.{weigh_set, weigh_at, weigh_two, each_map, each_both, each_zero}
use Rattle.bw_ticket.proofs.Views.{each_set}
use Rattle.bw_wake.proofs.CallerLemmas.{same_one}
use Rattle.bw_ticket.proofs.Queues.{queue_turn, queue_same}
use Rattle.bw_ticket.proofs.OwedCounts.{read_stands}
use Rattle.bw_ticket.proofs.OwedCounts.{owed_still}
use Rattle.bw_ticket.proofs.KeptLemmas.{still_seat, busy_seat, a_seat, all_snoc, loaded, drop_front, acts_on, room, Fit}

module _ {M C R : Type 0} (after : M → ℕ → C → M) (answer : M → ℕ → C → R) (about : About M) where
  -- step record: z is what the seat gives home
  pub record_keeps : (id : ℕ) (p : SeatView M C R) (t : ℕ) (y z : SlotValue M C R) (c : C)
      (s : State (SlotValue M C R) (List (SeatView M C R))) →
      p.phase ≡ Inside t y → get_elem? s.views id ≡ some (p ∷ [])
      → z.machine ≡ after y.machine p.number c → z.history.items ≡ y.history.items
      ++ entry p.number c (answer y.machine p.number c) ∷ [] →
      vec_capacity y.history ≤ vec_capacity z.history
      → Ruled after answer about s
      → Ruled after answer about record {
        words = set s.words 1 (slice_index s.words 1);
        homes = set s.homes 0 (some z);
        views =
            set s.views id (recorded z p ∷ []);
      }
  record_keeps id p t y z c s is at machine_is items_are big r =
      let within = weigh_at (λ x. is_inside x.phase) s.views id (p ∷ []) at in
      let mine : is_inside p.phase ≡ 1 = ap is_inside is in
      let turn = queue_turn (λ x. weigh_all (λ y. waits x y.phase) s.views) (r.inside + r.done)
      r.serving r.next r.queue in
      let count = r.inside_is in
      let in_one : r.inside ≡ 1 = omega arith in
      let undone : r.done ≡ 0 = omega arith in
      let fit = (r.each id (p ∷ []) at).0 in
      let mine_is : p.number < about.seats =
      a_seat about.seats p fit.numbered (busy_seat p (ap holds is)) in
      let acts : (t ≡ r.serving) × Stands after about.opening.value (room about) r.history y =
      subst (Acts after about.opening.value (room about) r.serving r.history) is fit.acts in
      let e : Entry C R = entry p.number c (answer y.machine p.number c) in
      let longer : List (Entry C R) = r.history ++ e ∷ [] in
      let items : z.history.items ≡ longer = items_are ∙ ap (λ h. h ++ e ∷ []) acts.1.0 in
      let machine : z.machine ≡ replay after about.opening.value longer =
      machine_is ∙ (ap (λ m. after m p.number c) acts.1.1
      ∙ sym (replay-snoc after about.opening.value r.history e)) in
      let long : length r.history ≡ r.serving = omega (arith, r.count) in
      let at_ticket : ticket_of p.phase ≡ length r.history =
      ap ticket_of is ∙ (acts.0 ∙ sym long) in
      let q = recorded z p in
      let moved = λ (g : SeatView M C R → ℕ). weigh_set g s.views id (p ∷ []) (q ∷ []) at in
      let own_is : q.made ≡ own_from 0 p.number longer =
      (λ i. p.made ++ own_from (at_ticket i) p.number (drop (at_ticket i) (items i)))
      ∙ (ap (λ es. p.made ++ own_from (length r.history) p.number es)
      (drop_front r.history (e ∷ []))
      ∙ (ap (λ l. l ++ own_from (length r.history) p.number (e ∷ [])) fit.own
      ∙ sym (own_from-snoc p.number r.history e))) in
      let held = r.away in
      let other = λ (j : ℕ) (v : List (SeatView M C R)) (ne : j ≢ id) (is_v : get_elem? s.views j
      ≡ some v) (h : Each (Fit after about r.serving r.history) v).
      let a = weigh_two (λ x. one_if (x.number == p.number)) s.views id j (p ∷ []) v at is_v ne in
      let b = weigh_two (λ x. is_inside x.phase) s.views id j (p ∷ []) v at is_v ne in
      let d = r.numbers p.number mine_is in
      let f = same_one p.number p.number refl in
      let apart = each_zero (λ x. one_if (x.number == p.number)) v (omega arith) in
      let outside = each_zero (λ x. is_inside x.phase) v (omega arith) in
      each_map (λ x. (one_if (x.number == p.number) ≡ 0)
      × ((is_inside x.phase ≡ 0) × Fit after about r.serving r.history x))
      (Fit after about r.serving longer) v
      (λ x w. let f = w.1.1 in record {
        numbered = f.numbered;
        within = f.within;
        behind = f.behind;
        own = f.own ∙ sym (own_from-other x.number r.history e
            (λ (g : p.number ≡ x.number). let k =
            same_one x.number p.number (sym g) in omega (arith, w.0)));
        acts = acts_on after about.opening.value (room about) r.serving r.history longer x.phase
            w.1.0 f.acts;
      })
      (each_both (λ x. one_if (x.number == p.number) ≡ 0)
      (λ x. (is_inside x.phase ≡ 0) × Fit after about r.serving r.history x) v apart
      (each_both (λ x. is_inside x.phase ≡ 0) (Fit after about r.serving r.history) v outside h)) in
      record {
        next = r.next;
        serving = r.serving;
        inside = 0;
        done = 1;
        history = longer;
        wake_words = r.wake_words;
        one_each = r.one_each;
        few = r.few;
        words = loaded s.words r.next r.serving r.wake_words r.words;
        bounded = r.bounded;
        seats_are = let h = moved is_seat in omega (arith, r.seats_are);
        calls_are = let h = moved (λ x. x.left) in let k = r.calls_are in omega arith;
        numbers = λ x lt. let h = moved (λ y. one_if (y.number == x)) in let k = r.numbers x lt in
            omega arith;
        inside_is = let h = moved (λ y. is_inside y.phase) in omega arith;
        done_is = let h = moved (λ y. is_done y.phase) in let k = ap is_done is in
            omega (arith, r.done_is);
        queue = queue_same (λ x. weigh_all (λ y. waits x y.phase) s.views)
            (λ x. weigh_all (λ y. waits x y.phase) (set s.views id (q ∷ []))) 1 r.serving r.next
            (subst (λ b. Queue (λ x. weigh_all (λ y. waits x y.phase) s.views) b r.serving r.next)
            (omega arith) r.queue)
            (λ x. let h = moved (λ y. waits x y.phase) in let k = ap (waits x) is in omega arith);
        drawn = let h = moved (λ y. holds y.phase) in let k = ap holds is in omega (arith, r.drawn);
        owed = owed_still s.views id p q r.serving s.words (set s.words 1 (slice_index s.words 1))
            at (omega arith)
            (let k = ap (will_peek r.serving) is in omega arith) (read_stands s.words 1 r.serving)
            r.owed;
        count = omega (arith, length-append r.history (e ∷ []), long);
        legal = legal-snoc after answer about.opening.value r.history e r.legal
            (ap (λ m. answer m p.number c) acts.1.1);
        callers = all_snoc (λ e. e.seat < about.seats) r.history e r.callers mine_is;
        each = each_set (Fit after about r.serving r.history) (Fit after about r.serving longer)
            s.views id (q ∷ []) r.each other (
              record {
                numbered = still_seat about.seats p q fit.numbered (λ i. p.number) (busy_seat p (ap holds is));
                within = fit.within;
                behind = fit.behind;
                own = own_is;
                acts = at_ticket ∙ long;
              },
              tt,
            );
        home = λ h. (
          z,
          ap (λ hs. set hs 0 (some z)) (r.away in_one),
          (items, machine, omega (arith, acts.1.2)),
        );
        away = λ h. absurd (omega arith);
      }
