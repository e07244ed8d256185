-- Each turn of a visit, before the seat waits and after it has left, is one event of the crowd.
use Rattle.std.proofs.Common.{◌≡◌, ◌≢◌, ℕ, ◌+◌, ◌-◌, ◌*◌, ◌%◌, ◌/◌, ◌==◌, ◌<◌}
use Rattle.std.proofs.Common.{Bool, true, false, List, ◌∷◌, Option, Some, None}
use Rattle.std.proofs.Common.{if◌then◌else◌, is_some, refl, sym, ap, ◌∙◌, subst, arith}
use Rattle.std.proofs.Common.{⊎_elim, eq-eqb, ne_eqb}
use mathlib.Core.Logic.{dite}
use native.Mathlib.Decide.{ℕ_discrete}
use Rattle.bw_lend.specs.declared.task.Task.{Task}
use Rattle.bw_lend.specs.declared.task.Task.TheVariants.{ToLook, ToEnter, ToClaim, ToHelp, ToReturn}
use Rattle.bw_lend.specs.declared.task.Task.TheVariants.{ToWakeFrom}
use Rattle.bw_lend.specs.Crowd.{Errand, Peeking, Claiming, EnteringFor, Giving, GivingLast}
use Rattle.bw_lend.specs.Crowd.{Drawn, Hinting, Entering, Returning, Asleep, Phase, Has, Leaves, Wakes}
use Rattle.bw_lend.specs.Crowd.{Place, Away, Posted, Claimed, Done, Back, Hint}
use Rattle.bw_lend.specs.Crowd.{Crowd, Event, Look, Lend, StoreHint, Peek, ClaimToHelp}
use Rattle.bw_lend.specs.Crowd.{ClaimToReturn, Give, Wake, look_by, lend_by, store_hint_by}
use Rattle.bw_lend.specs.Crowd.{after, or_same, put, moved, placed, woken, hinted}
use Rattle.bw_lend.specs.Crowd.{is_posted_with, peek_by, claim_by, give_by, wake_by}
use Rattle.bw_lend.specs.CrowdLaws.{seat_of}
use Rattle.bw_lend.specs.Rule.{hint_for}
use Rattle.bw_lend.specs.Turns.{Hall, LooksAhead, LendsItself, StoresHint, Peeks, ClaimsToHelp}
use Rattle.bw_lend.specs.Turns.{ClaimsToReturn, Gives, GivesLast, stores}
use Rattle.bw_lend.specs.Turns.{Returns, RousesFirst, Rouses, Shows, ShowsHint, is_waiting}
use Rattle.bw_lend.specs.Turns.{Visits, Claims, goes_on, puts, IsTurn}
use Rattle.bw_lend.specs.Visits.{Names, places_from, phase_of, IsPlaceOf, after_peek}
use Rattle.bw_lend.proofs.CrowdInvariant.{OkPlace, Ok}
use Rattle.bw_lend.proofs.CrowdErrands.{at_errand}
use Rattle.bw_lend.proofs.CrowdHands.{is_with, are_all}
use Rattle.bw_lend.proofs.CrowdKept.{put_here, put_else}
use Rattle.bw_lend.proofs.PlacesOwed.{all_owed, next_place}
use Rattle.bw_lend.proofs.Turned.{Meets, Goes}
use Rattle.bw_lend.proofs.TurnsRun.{makes}

-- the phase and the task of a seat that has looked whether its ticket is served
sight_is : (t : ℕ) (own : Bool) → Has t (if own then Entering else Drawn)
    ≡ phase_of 0 t 0 (if own then ToEnter else ToLook)
sight_is t true = refl
sight_is t false = refl

-- a hint that names a place names it in the model, and one that names none names none
hint_is : (t w owed : ℕ) (o : Option Hint) (found : Option ℕ) → 0 < t → ShowsHint w o
    → Names w t found → IsPlaceOf found
    → hinted t (places_from 64 0 owed) o ≡ phase_of 0 t owed (after_peek found)
hint_is t w owed None None late shows names below = refl
hint_is t w owed None (Some p) late shows names below = absurd (omega arith)
hint_is t w owed (Some g) None late shows names below =
    let word = shows.0 in let small = shows.1 in
    ap (λ (b : Bool). if b then Leaves t (places_from 64 0 owed) (Claiming g.seat)
    else Wakes (places_from 64 0 owed))
    (ne_eqb g.ticket t (λ e. names (let q : w / 64 ≡ t = omega arith in q)))
hint_is t w owed (Some g) (Some p) late shows names below =
    let word = shows.0 in let small = shows.1 in
    let same : g.ticket ≡ t = omega arith in let seat : g.seat ≡ p = omega arith in
    ap (λ (b : Bool). if b then Leaves t (places_from 64 0 owed) (Claiming g.seat)
    else Wakes (places_from 64 0 owed)) (eq-eqb g.ticket t same)
    ∙ ap (λ (s : ℕ). Leaves t (places_from 64 0 owed) (Claiming s)) seat

-- the word is that of a seat which is lent with the ticket if and only if such a one is there
posted_word : (w t : ℕ) (q : Place) → Shows w q → w ≡ t * 8 + 3 → is_posted_with t q ≡ true
posted_word w t Away shows is = absurd (omega arith)
posted_word w t (Posted u) shows is = eq-eqb u t (omega arith)
posted_word w t (Claimed u v) shows is = absurd (omega arith)
posted_word w t (Done u v) shows is = absurd (omega arith)
posted_word w t (Back u v) shows is = absurd (omega arith)

other_word : (w t : ℕ) (q : Place) → Shows w q → w ≢ t * 8 + 3 → is_posted_with t q ≡ false
other_word w t Away shows ne = refl
other_word w t (Posted u) shows ne =
    ne_eqb u t (λ e. ne (let same : w ≡ t * 8 + 3 = omega arith in same))
other_word w t (Claimed u v) shows ne = refl
other_word w t (Done u v) shows ne = refl
other_word w t (Back u v) shows ne = refl

woken_place : (s : Crowd) (a : ℕ) (js : List ℕ) (j : ℕ) (q : Phase)
    → (woken s a js j q).place ≡ s.place
woken_place s a js j (Has t Asleep) = refl
woken_place s a js j _ = refl

woken_hint : (s : Crowd) (a : ℕ) (js : List ℕ) (j : ℕ) (q : Phase)
    → (woken s a js j q).hint ≡ s.hint
woken_hint s a js j (Has t Asleep) = refl
woken_hint s a js j _ = refl

module _ (h : Hall) (m : Meets h) (i : ℕ) where
  by_event : (k : Hall) (e : Event) (p : Phase) → seat_of e ≡ i → h.crowd.phase i ≡ p
      → is_waiting p ≡ false → after h.crowd e ≡ Some k.crowd
      → ((j : ℕ) → Shows (k.word j) (k.crowd.place j))
      → ((j : ℕ) → k.crowd.place j ≡ h.crowd.place j → k.word j ≡ h.word j)
      → k.state ≡ h.state → k.found ≡ h.found
      → ((w : ℕ) → ShowsHint (k.hint w) (k.crowd.hint w)) → Goes h k i
  by_event k e p by at quiet is shows same state found hints = subst (Goes h k) by
      (makes h k m e (
        ap (λ (x : ℕ). is_waiting (h.crowd.phase x)) by ∙ ap is_waiting at ∙ quiet,
        ap is_some is,
        sym (ap (or_same h.crowd) is),
        shows,
        same,
        state,
        found,
        hints,
      ))

  -- a turn by which the seat goes on alone
  moves_on : (e : Event) (p q : Phase) → seat_of e ≡ i → h.crowd.phase i ≡ p
      → is_waiting p ≡ false → after h.crowd e ≡ Some (moved h.crowd i q)
      → Goes h (record h { crowd = moved h.crowd i q }) i
  moves_on e p q by at quiet is = by_event (record h { crowd = moved h.crowd i q }) e p by at
      quiet is m.shows (λ j same. refl) refl refl m.hints

  -- a turn by which it also changes the word of a place
  puts_on : (e : Event) (p q : Phase) (j word : ℕ) (c : Place) → seat_of e ≡ i
      → h.crowd.phase i ≡ p → is_waiting p ≡ false
      → after h.crowd e ≡ Some (placed h.crowd i q j c) → Shows word c
      → (h.crowd.place j ≡ c → ⊥)
      → Goes h (record h { crowd = placed h.crowd i q j c; word = put h.word j word }) i
  puts_on e p q j word c by at quiet is shown other = by_event
      (record h { crowd = placed h.crowd i q j c; word = put h.word j word }) e p by at quiet is
      (λ x. dite (ℕ_discrete x j)
      (λ (here : x ≡ j). subst (λ y. Shows (put h.word j word y) (put h.crowd.place j c y))
      (sym here) (subst (λ y. Shows y (put h.crowd.place j c j)) (sym (put_here h.word j word))
      (subst (Shows word) (sym (put_here h.crowd.place j c)) shown)))
      (λ ne. subst (λ y. Shows y (put h.crowd.place j c x)) (sym (put_else h.word j x word ne))
      (subst (Shows (h.word x)) (sym (put_else h.crowd.place j x c ne)) (m.shows x))))
      (λ x same. dite (ℕ_discrete x j)
      (λ (here : x ≡ j). absurd (other
      (sym (subst (λ y. put h.crowd.place j c y ≡ h.crowd.place y) here same)
      ∙ put_here h.crowd.place j c)))
      (λ ne. put_else h.word j x word ne))
      refl refl m.hints

  pub looks_ahead : (k : Hall) → IsTurn (LooksAhead i) h k → Goes h k i
  looks_ahead k turn = let t = turn.0 in let own : Bool = t == h.crowd.serving in
      subst (λ x. Goes h x i) (sym turn.2)
      (moves_on (Look i) (Has t Drawn) (phase_of 0 t 0 (if own then ToEnter else ToLook)) refl turn.1
      refl (ap (look_by h.crowd i) turn.1
      ∙ ap (λ (p : Phase). Some (moved h.crowd i p)) (sight_is t own)))

  pub lends_itself : (k : Hall) → IsTurn (LendsItself i) h k → Goes h k i
  lends_itself k turn = let t = turn.0 in
      let ok = (subst (λ p. Ok h.crowd i p (h.crowd.place i)) turn.1 (m.sound.each i)).3 in
      subst (λ x. Goes h x i) (sym turn.2)
      (puts_on (Lend i) (Has t Drawn) (Has t Hinting) i (t * 8 + 3) (Posted t) refl turn.1 refl
      (ap (lend_by h.crowd i) turn.1) refl
      (λ same. (subst (OkPlace h.crowd i t Drawn) same ok).2))

  pub stores_hint : (k : Hall) → IsTurn (StoresHint i) h k → Goes h k i
  stores_hint k turn = let t = turn.0 in let b : ℕ = t % h.crowd.words in
      let stored : Option Hint = Some (record { ticket = t; seat = i }) in
      subst (λ x. Goes h x i) (sym turn.3)
      (by_event (stores h i t) (StoreHint i) (Has t Hinting) refl turn.1 refl
      (ap (store_hint_by h.crowd i) turn.1) m.shows (λ j same. refl) refl refl
      (λ w. dite (ℕ_discrete w b)
      (λ (here : w ≡ b).
      subst (λ x. ShowsHint (put h.hint b (hint_for t i) x) (put h.crowd.hint b stored x)) (sym here)
      (subst (λ x. ShowsHint x (put h.crowd.hint b stored b)) (sym (put_here h.hint b (hint_for t i)))
      (subst (ShowsHint (hint_for t i)) (sym (put_here h.crowd.hint b stored)) (refl, turn.2))))
      (λ ne. subst (λ x. ShowsHint x (put h.crowd.hint b stored w))
      (sym (put_else h.hint b w (hint_for t i) ne))
      (subst (ShowsHint (h.hint w)) (sym (put_else h.crowd.hint b w stored ne)) (m.hints w)))))

  pub peeks : (k : Hall) → IsTurn (Peeks i) h k → Goes h k i
  peeks k turn = let n = turn.0 in let t = turn.1 in let owed = turn.2 in let found = turn.3 in
      let w = t % h.crowd.words in
      subst (λ x. Goes h x i) (sym turn.8)
      (moves_on (Peek i) (Leaves t (places_from 64 0 owed) (Peeking n))
      (phase_of 0 t owed (after_peek found)) refl turn.4 refl
      (ap (peek_by h.crowd i) turn.4 ∙ ap (λ (p : Phase). Some (moved h.crowd i p))
      (hint_is t (h.hint w) owed (h.crowd.hint w) found turn.5 (m.hints w) turn.6 turn.7)))

  claims : (mk : ℕ → Errand) (e : Event) (k : Hall) (t owed j : ℕ) (task : Task) → seat_of e ≡ i
      → after h.crowd e ≡ claim_by mk h.crowd i (h.crowd.phase i)
      → phase_of 0 t owed task ≡ Leaves t (places_from 64 0 owed) (mk j)
      → Visits h i 0 t owed (ToClaim j) → Claims h k i t owed j task → Goes h k i
  claims mk e k t owed j task by event next at how =
      let p : Phase = Leaves t (places_from 64 0 owed) (Claiming j) in
      let js : List ℕ = places_from 64 0 owed in
      let is : after h.crowd e ≡ claim_by mk h.crowd i p = event ∙ ap (claim_by mk h.crowd i) at in
      ⊎_elim (λ (won : (h.word j ≡ t * 8 + 3)
      × (k ≡ puts h i t owed task j (t * 8 + 2) (Claimed t i))).
      let posted = posted_word (h.word j) t (h.crowd.place j) (m.shows j) won.0 in
      subst (λ x. Goes h x i) (sym won.1)
      (puts_on e p (phase_of 0 t owed task) j (t * 8 + 2) (Claimed t i) by at refl
      (is ∙ ap (λ (b : Bool). Some (if b then placed h.crowd i (Leaves t js (mk j)) j (Claimed t i)
      else moved h.crowd i (Wakes js))) posted
      ∙ ap (λ (q : Phase). Some (placed h.crowd i q j (Claimed t i))) (sym next)) refl
      (λ same. apart t (sym (is_with t (h.crowd.place j) posted) ∙ same))))
      (λ (lost : (h.word j ≢ t * 8 + 3) × (k ≡ goes_on h i t owed (ToWakeFrom 0))).
      subst (λ x. Goes h x i) (sym lost.1)
      (moves_on e p (Wakes js) by at refl
      (is ∙ ap (λ (b : Bool). Some (if b then placed h.crowd i (Leaves t js (mk j)) j (Claimed t i)
      else moved h.crowd i (Wakes js)))
      (other_word (h.word j) t (h.crowd.place j) (m.shows j) lost.0)))) how
    where
      apart : (t : ℕ) → Posted t ≡ Claimed t i → ⊥
      apart t same = cc same

  pub claims_to_help : (k : Hall) → IsTurn (ClaimsToHelp i) h k → Goes h k i
  claims_to_help k turn = claims EnteringFor (ClaimToHelp i) k turn.0 turn.1 turn.2 (ToHelp turn.2)
      refl refl refl turn.3 turn.4

  pub claims_to_return : (k : Hall) → IsTurn (ClaimsToReturn i) h k → Goes h k i
  claims_to_return k turn = claims Returning (ClaimToReturn i) k turn.0 turn.1 turn.2
      (ToReturn turn.2) refl refl refl turn.3 turn.4

  not_done : (j t v : ℕ) → h.crowd.place j ≡ Claimed t i → h.crowd.place j ≡ Done t v → ⊥
  not_done j t v is same = let e : Claimed t i ≡ Done t v = sym is ∙ same in cc e

  not_back : (j t v : ℕ) → h.crowd.place j ≡ Claimed t i → h.crowd.place j ≡ Back t v → ⊥
  not_back j t v is same = let e : Claimed t i ≡ Back t v = sym is ∙ same in cc e

  pub gives : (k : Hall) → IsTurn (Gives i) h k → Goes h k i
  gives k turn = let n = turn.0 in let t = turn.1 in let owed = turn.2 in let j = turn.3 in
      let more = turn.4 in let js : List ℕ = places_from 64 0 owed in
      let ks : List ℕ = places_from 64 0 more in
      let held = (at_errand h.crowd i m.sound t js (Giving j n) turn.5).1.0 in
      subst (λ x. Goes h x i) (sym turn.8)
      (puts_on (Give i ks) (Leaves t js (Giving j n)) (Leaves (t + 1) ks (Peeking 0)) j (t * 8 + 4)
      (Done t i) refl turn.5 refl
      (ap (give_by h.crowd i ks) turn.5 ∙ ap (λ (b : Bool). if b
      then Some (placed h.crowd i (Leaves (t + 1) ks (Peeking 0)) j (Done t i)) else None)
      (all_owed owed j more turn.6 turn.7)) (omega arith) (not_done j t i held))

  pub gives_last : (k : Hall) → IsTurn (GivesLast i) h k → Goes h k i
  gives_last k turn = let t = turn.0 in let owed = turn.1 in let j = turn.2 in
      let more = turn.3 in let js : List ℕ = places_from 64 0 owed in
      let ks : List ℕ = places_from 64 0 more in
      let held = (at_errand h.crowd i m.sound t js (GivingLast j) turn.4).1 in
      subst (λ x. Goes h x i) (sym turn.7)
      (puts_on (Give i ks) (Leaves t js (GivingLast j)) (Wakes ks) j (t * 8 + 4) (Done t i) refl
      turn.4 refl
      (ap (give_by h.crowd i ks) turn.4 ∙ ap (λ (b : Bool). if b
      then Some (placed h.crowd i (Wakes ks) j (Done t i)) else None)
      (all_owed owed j more turn.5 turn.6)) (omega arith) (not_done j t i held))

  pub returns : (k : Hall) → IsTurn (Returns i) h k → Goes h k i
  returns k turn = let t = turn.0 in let owed = turn.1 in let j = turn.2 in
      let js : List ℕ = places_from 64 0 owed in
      let held = (at_errand h.crowd i m.sound t js (Returning j) turn.3).1 in
      subst (λ x. Goes h x i) (sym turn.4)
      (puts_on (Give i js) (Leaves t js (Returning j)) (Wakes (j ∷ js)) j (t * 8 + 5) (Back t i)
      refl turn.3 refl
      (ap (give_by h.crowd i js) turn.3 ∙ ap (λ (b : Bool). if b
      then Some (placed h.crowd i (Wakes (j ∷ js)) j (Back t i)) else None)
      (are_all js js (λ x r. r))) (omega arith) (not_back j t i held))

  -- a turn by which it wakes the first owner that it owes a wake
  wakes_one : (j : ℕ) (js : List ℕ) → h.crowd.phase i ≡ Wakes (j ∷ js)
      → Goes h (record h { crowd = woken h.crowd i js j (h.crowd.phase j) }) i
  wakes_one j js at = let q = h.crowd.phase j in
      by_event (record h { crowd = woken h.crowd i js j q }) (Wake i) (Wakes (j ∷ js)) refl at refl
      (ap (wake_by h.crowd i) at)
      (λ x. subst (λ (f : ℕ → Place). Shows (h.word x) (f x))
      (sym (woken_place h.crowd i js j q)) (m.shows x))
      (λ x same. refl) refl refl
      (λ w. subst (λ (f : ℕ → Option Hint). ShowsHint (h.hint w) (f w))
      (sym (woken_hint h.crowd i js j q)) (m.hints w))

  pub rouses_first : (k : Hall) → IsTurn (RousesFirst i) h k → Goes h k i
  rouses_first k turn = subst (λ x. Goes h x i) (sym turn.4)
      (wakes_one turn.2 (places_from 64 0 turn.1) turn.3)

  pub rouses : (k : Hall) → IsTurn (Rouses i) h k → Goes h k i
  rouses k turn = let owed = turn.1 in let j = turn.2 in
      subst (λ x. Goes h x i) (sym turn.6)
      (wakes_one j (places_from (64 - (j + 1)) (j + 1) owed)
      (turn.3 ∙ ap Wakes (next_place owed j turn.4 turn.5)))
