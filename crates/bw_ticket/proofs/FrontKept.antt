-- The steps front, split and join keep the rule.
use Rattle.std.proofs.Common.{◌≡◌, ℕ, ◌+◌, ◌≤◌, ◌==◌, List}
use Rattle.std.proofs.Common.{[], ◌∷◌, set, slice_index}
use Rattle.std.proofs.Common.{ap, ◌∙◌, arith, suc, ◌<◌, if◌then◌else◌, refl, sym, inr, ne_eqb}
use mathlib.Core.Option.{some}
use lib.ListN.{get_elem?}
use Rattle.atomic_table.specs.Table.{State}
use Rattle.bw_ticket.specs.declared.board.SlotValue.{SlotValue}
use Rattle.bw_ticket.specs.declared.board.SeatView.{SeatView}
use Rattle.bw_ticket.specs.declared.board.About.{About}
use Rattle.bw_wake.specs.Progress.{one_if}
use Rattle.bw_ticket.specs.Rule.{is_seat, weigh_all, EachView, waits, is_inside}
use Rattle.bw_ticket.specs.Rule.{is_done, holds, may_sleep, will_peek}
use Rattle.bw_ticket.specs.Rule.{Ruled}
use Rattle.bw_ticket.specs.Plays.{seeing, news}
use Rattle.bw_ticket.specs.declared.board.Phase.{Phase}
use Rattle.bw_ticket.specs.declared.board.Phase.TheVariants.{Idle}
use Rattle.bw_ticket.specs.declared.limits.TheConstants.{MAX_SEATS}
use Rattle.bw_machine.specs.declared.history.Entry.{Entry}
use Rattle.bw_machine.specs.History.{own_from, made}
use Rattle.std.specs.List.{All}
use Rattle.bw_ticket.proofs.Views.{weigh_set}
use Rattle.bw_ticket.proofs.Views.{each_set}
use Rattle.bw_ticket.proofs.Queues.{queue_same}
use Rattle.bw_ticket.proofs.OwedCounts.{read_stands}
use Rattle.bw_ticket.proofs.OwedCounts.{owed_still}
use Rattle.bw_ticket.proofs.KeptLemmas.{loaded, Fit}

module _ {M C R : Type 0} (after : M → ℕ → C → M) (answer : M → ℕ → C → R) (about : About M) where
  -- step front
  pub front_keeps : (id : ℕ) (p : SeatView M C R)
      (s : State (SlotValue M C R) (List (SeatView M C R))) → get_elem? s.views id ≡ some (p ∷ [])
      → Ruled after answer about s
      → (p.reached ≤ slice_index s.words 1) × Ruled after answer about record {
        words = set s.words 1 (slice_index s.words 1);
        homes = s.homes;
        views =
            set s.views id (seeing (slice_index s.words 1) p ∷ []);
      }
  front_keeps id p s at r = let n : ℕ = slice_index s.words 1 in let q = seeing n p in
      let found : n ≡ r.serving = ap (λ ws. slice_index ws 1) r.words in
      let moved = λ (g : SeatView M C R → ℕ). weigh_set g s.views id (p ∷ []) (q ∷ []) at in
      let fit = (r.each id (p ∷ []) at).0 in (
        omega (arith, fit.behind),
        record {
          next = r.next;
          serving = r.serving;
          inside = r.inside;
          done = r.done;
          history = r.history;
          wake_words = r.wake_words;
          one_each = r.one_each;
          few = r.few;
          words = loaded s.words r.next r.serving r.wake_words r.words;
          bounded = r.bounded;
          seats_are = let h = moved is_seat in omega (arith, r.seats_are);
          calls_are = let h = moved (λ x. x.left) in let k = r.calls_are in omega arith;
          numbers = λ x lt. let h = moved (λ y. one_if (y.number == x)) in let k = r.numbers x lt in
              omega arith;
          inside_is = let h = moved (λ y. is_inside y.phase) in omega (arith, r.inside_is);
          done_is = let h = moved (λ y. is_done y.phase) in omega (arith, r.done_is);
          queue = queue_same (λ x. weigh_all (λ y. waits x y.phase) s.views)
              (λ x. weigh_all (λ y. waits x y.phase) (set s.views id (q ∷ [])))
              (r.inside + r.done) r.serving r.next r.queue
              (λ x. let h = moved (λ y. waits x y.phase) in omega arith);
          drawn = let h = moved (λ y. holds y.phase) in omega (arith, r.drawn);
          owed = owed_still s.views id p q r.serving s.words (set s.words 1 n) at (omega arith)
              (omega arith) (read_stands s.words 1 r.serving) r.owed;
          count = r.count;
          legal = r.legal;
          callers = r.callers;
          each = each_set (Fit after about r.serving r.history)
              (Fit after about r.serving r.history) s.views id (q ∷ [])
              r.each (λ j v ne e h. h) (
                record {
                  numbered = fit.numbered;
                  within = fit.within;
                  behind = omega arith;
                  own = fit.own;
                  acts = fit.acts;
                },
                tt,
              );
          home = r.home;
          away = r.away;
        },
      )

  -- the same seats in other lists of views, beside news of served tickets
  pub regrouped : (s : State (SlotValue M C R) (List (SeatView M C R)))
      (views : List (List (SeatView M C R))) (r : Ruled after answer about s)
      → weigh_all is_seat views ≡ weigh_all is_seat s.views
      → weigh_all (λ p. p.left) views ≡ weigh_all (λ p. p.left) s.views
      → ((x : ℕ) → x < about.seats → weigh_all (λ p. one_if (p.number == x)) views
      ≡ weigh_all (λ p. one_if (p.number == x)) s.views)
      → ((g : Phase M C R → ℕ) → g Idle ≡ 0
      → weigh_all (λ p. g p.phase) views ≡ weigh_all (λ p. g p.phase) s.views)
      → EachView (Fit after about r.serving r.history) views
      → Ruled after answer about record { words = s.words; homes = s.homes; views = views }
  regrouped s views r seats left number same each = record {
    next = r.next;
    serving = r.serving;
    inside = r.inside;
    done = r.done;
    history = r.history;
    wake_words = r.wake_words;
    one_each = r.one_each;
    few = r.few;
    words = r.words;
    bounded = r.bounded;
    seats_are = seats ∙ r.seats_are;
    calls_are = let k = r.calls_are in omega (arith, left);
    numbers = λ x lt. let h = number x lt in let k = r.numbers x lt in omega arith;
    inside_is = same is_inside refl ∙ r.inside_is;
    done_is = same is_done refl ∙ r.done_is;
    queue = queue_same (λ x. weigh_all (λ y. waits x y.phase) s.views)
        (λ x. weigh_all (λ y. waits x y.phase) views) (r.inside + r.done) r.serving r.next
        r.queue
        (λ x. same (waits x) refl);
    drawn = let h = same holds refl in omega (arith, r.drawn);
    owed = λ some_may stands. let a = same (may_sleep r.serving) refl in
        let b = same (will_peek r.serving) refl in
        let z = r.owed (omega arith) stands in omega arith;
    count = r.count;
    legal = r.legal;
    callers = r.callers;
    each = each;
    home = r.home;
    away = r.away;
  }

  -- steps split and join: the same places in other views
  pub rearranged : (s : State (SlotValue M C R) (List (SeatView M C R)))
      (views : List (List (SeatView M C R))) →
      ((g : SeatView M C R → ℕ) → weigh_all g views ≡ weigh_all g s.views)
      → ((F : SeatView M C R → Type 0) → EachView F s.views → EachView F views)
      → Ruled after answer about s
      → Ruled after answer about record { words = s.words; homes = s.homes; views = views }
  rearranged s views same each r = regrouped s views r (same is_seat) (same (λ x. x.left))
      (λ x lt. same (λ y. one_if (y.number == x))) (λ g zero. same (λ y. g y.phase))
      (each (Fit after about r.serving r.history) r.each)

  -- no entry is of a number that is of no seat
  own_of_none : (n at : ℕ) (h : List (Entry C R)) → All (λ e. e.seat < about.seats) h
      → about.seats ≤ n → own_from at n h ≡ []
  own_of_none n at [] all le = refl
  own_of_none n at (e ∷ h) all le = let lt = all 0 e (omega arith) in
      ap (λ b. if b then made e.call e.reply at ∷ own_from (at + 1) n h else own_from (at + 1) n h)
      (ne_eqb e.seat n (λ eq. omega arith))
      ∙ own_of_none n (at + 1) h (λ k d l. all (suc k) d (omega arith)) le

  -- news of tickets that are served
  pub news_fit : (n : ℕ) (s : State (SlotValue M C R) (List (SeatView M C R)))
      (r : Ruled after answer about s) → n ≤ r.serving
      → Fit after about r.serving r.history (news n)
  news_fit n s r le = record {
    numbered = inr (omega arith, refl, refl);
    within = omega arith;
    behind = le;
    own = sym (own_of_none MAX_SEATS 0 r.history r.callers r.few);
    acts = tt;
  }
