-- Every list of turns on both tables is a list of events of the crowd. It is an induction on the
-- turns.
use Rattle.std.proofs.Common.{◌≡◌, ◌≢◌, ℕ, zero, suc, ◌+◌, ◌-◌, ◌*◌, ◌≤◌}
use Rattle.std.proofs.Common.{Bool, true, false, List, [], ◌∷◌, ◌++◌, Some, None, length}
use Rattle.std.proofs.Common.{map, replicate, is_some, refl, sym, ap, ◌∙◌, subst, arith, inl, inr}
use Rattle.std.proofs.Common.{⊎_elim, slice_get, slice_index}
use mathlib.Core.Logic.{dite}
use native.Mathlib.Decide.{ℕ_discrete}
use Rattle.bw_ticket.specs.declared.board.SeatView.{SeatView}
use Rattle.bw_ticket.specs.declared.board.Phase.{Phase as ViewPhase}
use Rattle.bw_ticket.specs.declared.board.Phase.TheVariants.{Waiting}
use Rattle.bw_ticket.specs.declared.limits.TheConstants.{MAX_SEATS}
use Rattle.bw_ticket.specs.Rule.{views_from}
use Rattle.bw_ticket.specs.Turns.{Doing, seated}
use Rattle.bw_ticket.specs.Turns.Doing.{IsUp}
use Rattle.bw_lend.specs.Crowd.{Entering, EnteringFor, Has, Leaves, Asleep, Reading, Phase}
use Rattle.bw_lend.specs.Crowd.{Crowd, Event, SpuriousWake, spurious_wake_by, after, or_same}
use Rattle.bw_lend.specs.Crowd.{happens, put, moved, woken, start, run}
use Rattle.bw_lend.specs.CrowdLaws.{seat_of}
use Rattle.bw_lend.specs.CrowdRounds.{MakesOne, AreRounds, run_rounds}
use Rattle.bw_lend.specs.Visits.{places_from}
use Rattle.bw_lend.specs.Turns.{Hall, Turn, LooksAhead, LendsItself, StoresHint, Reads, Looks}
use Rattle.bw_lend.specs.Turns.{TakesBack, Sleeps, Peeks, ClaimsToHelp, ClaimsToReturn, Gives}
use Rattle.bw_lend.specs.Turns.{GivesLast, Returns, RousesFirst, Rouses, Makes, IsTurn, maker}
use Rattle.bw_lend.specs.Turns.{is_waiting}
use Rattle.bw_lend.specs.BothTables.{Both, BothTurn, OnPlaces, OnLock, Calls, Ends}
use Rattle.bw_lend.specs.BothTables.{Glances, WakesUp}
use Rattle.bw_lend.specs.BothTables.{is_on_places, made, opened_both, IsBothTurn, BothLead}
use Rattle.bw_lend.specs.BothTables.{IsFree, IsIn, Enters}
use Rattle.bw_lend.specs.BothTables.{thread_of, is_event, MakesPicked}
use Rattle.bw_lend.specs.BothTables.{LeadInRoundsOf, BothAreEvents, BothServeDrawnTickets}
use Rattle.bw_lend.proofs.CrowdKept.{put_here, put_else}
use Rattle.bw_lend.proofs.CrowdRises.{drawn_tickets_are_left}
use Rattle.bw_lend.proofs.Kept.{all_zero}
use Rattle.bw_lend.proofs.Turned.{at_start}
use Rattle.bw_lend.proofs.TurnsLed.{one_turn}
use Rattle.bw_lend.proofs.BothHeld.{IsEntering, Agrees, HasWords, Joined, Turned}
use Rattle.bw_lend.proofs.BothHeld.{slept_idle, stays, meets_after, by_one, by_none}
use Rattle.bw_lend.proofs.BothHeld.{doing_or}
use Rattle.bw_lend.proofs.BothRuns.{on_lock, no_glance}

-- the two numbers of the lock are as before
abbrev Same : Hall → Hall → Type 0
Same h k = (k.crowd.next ≡ h.crowd.next) × (k.crowd.serving ≡ h.crowd.serving)

by_eq : (h k x : Hall) → k ≡ x → Same h x → Same h k
by_eq h k x is same = subst (Same h) (sym is) same

woken_numbers : (s : Crowd) (a : ℕ) (js : List ℕ) (j : ℕ) (q : Phase)
    → ((woken s a js j q).next ≡ s.next) × ((woken s a js j q).serving ≡ s.serving)
woken_numbers s a js j (Has t Asleep) = (refl, refl)
woken_numbers s a js j _ = (refl, refl)

-- no turn on the table of places changes them
same_numbers : (t : Turn) (h k : Hall) → is_on_places t ≡ true → IsTurn t h k → Same h k
same_numbers (LooksAhead i) h k on turn = by_eq h k _ turn.2 (refl, refl)
same_numbers (LendsItself i) h k on turn = by_eq h k _ turn.2 (refl, refl)
same_numbers (StoresHint i) h k on turn = by_eq h k _ turn.3 (refl, refl)
same_numbers (Reads i) h k on turn = by_eq h k _ turn.3 (refl, refl)
same_numbers (Looks i) h k on turn = by_eq h k _ turn.6 (refl, refl)
same_numbers (TakesBack i) h k on turn = ⊎_elim (λ how. by_eq h k _ how.1 (refl, refl))
    (λ how. by_eq h k _ how.1 (refl, refl)) turn.5
same_numbers (Sleeps i) h k on turn = ⊎_elim (λ how. by_eq h k _ how.1 (refl, refl))
    (λ how. by_eq h k _ how.1 (refl, refl)) turn.5
same_numbers (Peeks i) h k on turn = by_eq h k _ turn.8 (refl, refl)
same_numbers (ClaimsToHelp i) h k on turn = ⊎_elim (λ how. by_eq h k _ how.1 (refl, refl))
    (λ how. by_eq h k _ how.1 (refl, refl)) turn.4
same_numbers (ClaimsToReturn i) h k on turn = ⊎_elim (λ how. by_eq h k _ how.1 (refl, refl))
    (λ how. by_eq h k _ how.1 (refl, refl)) turn.4
same_numbers (Gives i) h k on turn = by_eq h k _ turn.8 (refl, refl)
same_numbers (GivesLast i) h k on turn = by_eq h k _ turn.7 (refl, refl)
same_numbers (Returns i) h k on turn = by_eq h k _ turn.4 (refl, refl)
same_numbers (RousesFirst i) h k on turn = by_eq h k _ turn.4
    (woken_numbers h.crowd i (places_from 64 0 turn.1) turn.2 (h.crowd.phase turn.2))
same_numbers (Rouses i) h k on turn = by_eq h k _ turn.6
    (woken_numbers h.crowd i (places_from (64 - (turn.2 + 1)) (turn.2 + 1) turn.1) turn.2
    (h.crowd.phase turn.2))
same_numbers (Makes e) h k on turn = absurd (let bad : ⊥ = cc on in bad)

module _ {M C R : Type 0} (b c : Both M C R) (m : Joined b) where
  on_places : (t : Turn) → is_on_places t ≡ true → IsTurn t b.hall c.hall
      → b.call (maker t) ≡ None → Turned b (record b { hall = c.hall }) (OnPlaces t)
  on_places t on turn idle =
      let s = b.hall.crowd in
      let g = one_turn b.hall c.hall m.meets t turn in
      let e : Event = g.0 in let to : c.hall.crowd ≡ happens s e = g.3 in
      let same = same_numbers t b.hall c.hall on turn in
      by_one b m (record b { hall = c.hall }) (OnPlaces t) e (record {
        meets = g.4;
        words = subst (λ (n : ℕ). HasWords b.lock.words n c.hall.crowd.serving) (sym same.0)
            (subst (λ (n : ℕ). HasWords b.lock.words s.next n) (sym same.1) m.words);
        up = m.up;
        calls = λ k j is. let held = m.calls k j is in
            let ne : k ≢ seat_of e =
            λ eq. absurd (let none_there : Some j ≡ None =
            sym is ∙ (ap b.call (eq ∙ g.1) ∙ idle) in let bad : ⊥ = cc none_there in bad) in (
              held.0,
              held.1,
              subst (λ (x : Crowd). Agrees (x.phase k) held.0.phase (b.looked k)) (sym to)
                  (stays s e k held.0.phase (b.looked k) m.meets.sound ne held.2),
            );
        apart = m.apart;
      }) to g.1 g.2

  wakes_up : (i t : ℕ) → b.hall.crowd.phase i ≡ Has t Asleep
      → Turned b (record b { hall = made b.hall (Some (SpuriousWake i)) }) (WakesUp i)
  wakes_up i t at =
      let s = b.hall.crowd in let e : Event = SpuriousWake i in
      let x : Crowd = moved s i (Has t Reading) in
      let step : after s e ≡ Some x = ap (spurious_wake_by s i) at in
      let same : happens s e ≡ x = ap (or_same s) step in
      by_one b m (record b { hall = made b.hall (Some e) }) (WakesUp i) e (record {
        meets = meets_after b m e x (ap is_waiting at) step refl refl;
        words = subst (λ (y : Crowd). HasWords b.lock.words y.next y.serving) (sym same) m.words;
        up = m.up;
        calls = λ k j is. let held = m.calls k j is in (
          held.0,
          held.1,
          dite (ℕ_discrete k i)
              (λ (eq : k ≡ i). slept_idle t ((happens s e).phase k) held.0.phase (b.looked k)
              (subst (λ q. Agrees q held.0.phase (b.looked k)) (ap s.phase eq ∙ at) held.2))
              (λ ne. stays s e k held.0.phase (b.looked k) m.meets.sound ne held.2),
        );
        apart = m.apart;
      }) refl refl (ap is_some step)

  ends : (i : ℕ) → Turned b (record b { call = put b.call i None }) (Ends i)
  ends i = by_none b m (record b { call = put b.call i None }) (Ends i) (record {
    meets = m.meets;
    words = m.words;
    up = m.up;
    calls = λ k j is. let old = was k j is in m.calls k j old.1;
    apart = λ k n j is there. m.apart k n j (was k j is).1 (was n j there).1;
  }) refl refl
    where
      was : (k j : ℕ) → put b.call i None k ≡ Some j → (k ≢ i) × (b.call k ≡ Some j)
      was k j is = dite (ℕ_discrete k i)
          (λ (eq : k ≡ i). absurd (let e : None ≡ Some j =
          sym (ap (put b.call i None) eq ∙ put_here b.call i None) ∙ is in
          let bad : ⊥ = cc e in bad))
          (λ ne. (ne, sym (put_else b.call i k None ne) ∙ is))

  module _ (i j t : ℕ) where
    -- the thread i is from now on in a call with the seat j
    own_call : (k n : ℕ) → k ≡ i → put b.call i (Some j) k ≡ Some n → j ≡ n
    own_call k n eq is = let e : Some j ≡ Some n =
        sym (ap (put b.call i (Some j)) eq ∙ put_here b.call i (Some j)) ∙ is in cc e

    old_call : (k n : ℕ) → k ≢ i → put b.call i (Some j) k ≡ Some n → b.call k ≡ Some n
    old_call k n ne is = sym (put_else b.call i k (Some j) ne) ∙ is

    calls_in : b.call i ≡ None → IsFree b j → IsIn b j (Waiting t) → Enters b i t
        → Turned b (record b { call = put b.call i (Some j); looked = put b.looked i false })
        (Calls i j)
    calls_in idle free there enters =
        let s = b.hall.crowd in
        let entering : IsEntering (s.phase i) t =
        ⊎_elim (λ (own : s.phase i ≡ Has t Entering). inl own)
        (λ (x : (place : ℕ) × (owed : ℕ)
        × (s.phase i ≡ Leaves t (places_from 64 0 owed) (EnteringFor place))).
        inr (places_from 64 0 x.1, x.0, x.2)) enters in
        let f : ℕ → Bool = put b.looked i false in
        by_none b m (record b { call = put b.call i (Some j); looked = f }) (Calls i j) (record {
          meets = m.meets;
          words = m.words;
          up = m.up;
          calls = λ k n is. dite (ℕ_discrete k i)
              (λ (eq : k ≡ i). (
                there.0,
                ap (slice_get b.lock.seats) (sym (own_call k n eq is)) ∙ there.1,
                subst (λ (g : ViewPhase M C R). Agrees (s.phase k) g (f k)) (sym there.2) (
                  subst (λ x. IsEntering (s.phase x) t) (sym eq) entering,
                  ap f eq ∙ put_here b.looked i false,
                ),
              ))
              (λ (ne : k ≢ i). let held = m.calls k n (old_call k n ne is) in (
                held.0,
                held.1,
                subst (λ z. Agrees (s.phase k) held.0.phase z) (sym (put_else b.looked i k false ne))
                    held.2,
              ));
          apart = λ k n x is at. dite (ℕ_discrete k i)
              (λ (eq : k ≡ i). dite (ℕ_discrete n i) (λ (en : n ≡ i). eq ∙ sym en)
              (λ (ne : n ≢ i). absurd (free n (old_call n x ne at
              ∙ ap Some (sym (own_call k x eq is))))))
              (λ (ne : k ≢ i). dite (ℕ_discrete n i)
              (λ (en : n ≡ i). absurd (free k (old_call k x ne is
              ∙ ap Some (sym (own_call n x en at)))))
              (λ (nn : n ≢ i). m.apart k n x (old_call k x ne is) (old_call n x nn at)));
        }) refl refl

  pub one_both : (t : BothTurn) → IsBothTurn t b c → Turned b c t
  one_both (OnPlaces t) turn = subst (λ (x : Both M C R). Turned b x (OnPlaces t)) (sym turn.3)
      (on_places t turn.0 turn.1 turn.2)
  one_both (OnLock i u) turn = subst (λ (x : Both M C R). Turned b x (OnLock i u)) (sym turn.2)
      (on_lock b c m i u turn.0 turn.1)
  one_both (Calls i j) turn = subst (λ (x : Both M C R). Turned b x (Calls i j)) (sym turn.5)
      (calls_in i j turn.0 turn.1 turn.2 turn.3 turn.4)
  one_both (Ends i) turn = subst (λ (x : Both M C R). Turned b x (Ends i)) (sym turn.3) (ends i)
  one_both (Glances i) turn = absurd (no_glance b c m i turn)
  one_both (WakesUp i) turn = subst (λ (x : Both M C R). Turned b x (WakesUp i)) (sym turn.2)
      (wakes_up i turn.0 turn.1)

run_append : (s : Crowd) (es fs : List Event) → run s (es ++ fs) ≡ run (run s es) fs
run_append s [] fs = refl
run_append s (e ∷ es) fs = run_append (happens s e) es fs

makes_first : (i : ℕ) (s : Crowd) (es fs : List Event) → MakesOne i s es → MakesOne i s (es ++ fs)
makes_first i s [] fs h = absurd h
makes_first i s (e ∷ es) fs (inl own) = inl own
makes_first i s (e ∷ es) fs (inr h) = inr (makes_first i (happens s e) es fs h)

makes_later : (i : ℕ) (s : Crowd) (es fs : List Event) → MakesOne i (run s es) fs
    → MakesOne i s (es ++ fs)
makes_later i s [] fs h = h
makes_later i s (e ∷ es) fs h = inr (makes_later i (happens s e) es fs h)

no_marks : (n w : ℕ) → 2 ≤ w → slice_index (0 ∷ 0 ∷ replicate {A = ℕ} n 0) w ≡ 0
no_marks n zero le = refl
no_marks n (suc zero) le = refl
no_marks n (suc (suc w)) le = all_zero n w

module _ {M C R : Type 0} where
  -- the events of a list of turns
  abbrev pub Led : Both M C R → List BothTurn → Both M C R → Type 0
  Led b turns c = (events : List Event) × Joined c × (run b.hall.crowd events ≡ c.hall.crowd)
      × ((i : ℕ) → MakesPicked is_event i turns → MakesOne i b.hall.crowd events)

  pub led : (b c : Both M C R) (turns : List BothTurn) → Joined b → BothLead b turns c
      → Led b turns c
  led b c [] m is = (
    [],
    subst (λ (x : Both M C R). Joined x) (sym is) m,
    ap (λ (x : Both M C R). x.hall.crowd) (sym is),
    λ i h. absurd h,
  )
  led b c (t ∷ ts) m l =
      let a = one_both b l.0 m t l.1 in let r = led l.0 c ts a.1 l.2 in
      let s = b.hall.crowd in (
        a.0 ++ r.0,
        r.1,
        run_append s a.0 r.0 ∙ (ap (λ (x : Crowd). run x r.0) a.2 ∙ r.2),
        λ i made. ⊎_elim
            (λ (own : (thread_of t ≡ i) × (is_event t ≡ true)).
            subst (λ (x : ℕ). MakesOne x s (a.0 ++ r.0)) own.0
            (makes_first (thread_of t) s a.0 r.0 (a.3 own.1)))
            (λ (later : MakesPicked is_event i ts). makes_later i s a.0 r.0
            (subst (λ (x : Crowd). MakesOne i x r.0) (sym a.2) (r.3 i later))) made,
      )

  all_up : (xs : List (SeatView M C R)) (j : ℕ) (p : SeatView M C R) (d : Doing)
      → slice_get (map (seated IsUp) xs) j ≡ Some (seated d p) → d ≡ IsUp
  all_up [] j p d is = absurd (cc is)
  all_up (x ∷ xs) zero p d is = sym (ap doing_or is)
  all_up (x ∷ xs) (suc j) p d is = all_up xs j p d is

  pub at_first : (seats words calls : ℕ) → seats ≤ words
      → Joined (opened_both {M = M} {C = C} {R = R} seats words calls)
  at_first seats words calls le = record {
    meets = at_start seats words le;
    words = (refl, refl, no_marks MAX_SEATS, omega arith, omega arith);
    up = all_up (views_from 0 seats calls);
    calls = λ i j is. absurd (let bad : ⊥ = cc is in bad);
    apart = λ i k j is at. absurd (let bad : ⊥ = cc is in bad);
  }

  led_in_rounds : (b c : Both M C R) (rounds : List (List BothTurn)) → Joined b
      → LeadInRoundsOf is_event b rounds c
      → (lists : List (List Event)) × (length lists ≡ length rounds) × AreRounds b.hall.crowd lists
      × (run_rounds b.hall.crowd lists ≡ c.hall.crowd) × Joined c
  led_in_rounds b c [] m is = (
    [],
    refl,
    tt,
    ap (λ (x : Both M C R). x.hall.crowd) (sym is),
    subst (λ (x : Both M C R). Joined x) (sym is) m,
  )
  led_in_rounds b c (r ∷ rs) m l =
      let a = led b l.0 r m l.1 in
      let d = led_in_rounds l.0 c rs a.1 l.3 in (
        a.0 ∷ d.0,
        ap suc d.1,
        (
          λ i up. a.3 i (l.2 i up),
          subst (λ (x : Crowd). AreRounds x d.0) (sym a.2) d.2,
        ),
        ap (λ (x : Crowd). run_rounds x d.0) a.2 ∙ d.3,
        d.4,
      )

pub both_are_events : (M C R : Type 0) → BothAreEvents M C R
both_are_events M C R seats words calls turns b le leads =
    let a = led (opened_both seats words calls) b turns (at_first seats words calls le) leads in
    (a.0, a.2, (sym a.1.words.0, sym a.1.words.1))

pub both_serve : (M C R : Type 0) → BothServeDrawnTickets M C R
both_serve M C R seats words calls turns rounds b c ticket le leads lt many in_rounds =
    let a = led (opened_both seats words calls) b turns (at_first seats words calls le) leads in
    let r = led_in_rounds b c rounds a.1 in_rounds in
    let s : Crowd = run (start seats words) a.0 in
    let same : s ≡ b.hall.crowd = a.2 in
    let next : s.next ≡ slice_index b.lock.words 0 =
    ap (λ (x : Crowd). x.next) same ∙ sym a.1.words.0 in
    let serving : s.serving ≡ slice_index b.lock.words 1 =
    ap (λ (x : Crowd). x.serving) same ∙ sym a.1.words.1 in
    let long = r.1 in
    let end : (run_rounds s r.0).serving ≡ slice_index c.lock.words 1 =
    ap (λ (x : Crowd). x.serving) (ap (λ (x : Crowd). run_rounds x r.0) same ∙ r.3)
    ∙ sym r.4.words.1 in
    let left = drawn_tickets_are_left seats words a.0 r.0 ticket le (omega arith)
    (subst (λ (x : ℕ). 17 * (ticket + 1 - x) ≤ length r.0) (sym serving) (omega arith))
    (subst (λ (x : Crowd). AreRounds x r.0) (sym same) r.2) in
    omega arith
