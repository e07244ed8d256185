-- Rounds raise the ticket that is served. In each state where it is drawn some seat is to make the
-- next event on the way. No event of another seat leads back, so a round comes nearer by one.
use Rattle.std.proofs.Common.{◌≡◌, ◌≢◌, ℕ, zero, suc, ◌+◌, ◌-◌, ◌*◌, ◌<◌, ◌≤◌, ◌⊎◌, ◌==◌}
use Rattle.std.proofs.Common.{Bool, true, false, List, [], ◌∷◌, length, refl, sym, ap, ◌∙◌}
use Rattle.std.proofs.Common.{subst, inl, inr, ⊎_elim, arith, slice_get, slice_set, Some, None}
use Rattle.std.proofs.Common.{Option, is_some, if◌then◌else◌, eq-eqb, eqb-true}
use Rattle.std.specs.List.{list_any}
use mathlib.Core.Logic.{dite}
use native.Mathlib.Decide.{ℕ_discrete, dec_le}
use Rattle.std.proofs.lemmas.Bool.{le-leb}
use Rattle.std.proofs.lemmas.Option.{slice_get_within}
use Rattle.bw_wake.specs.declared.seats.Phase.{Phase}
use Rattle.bw_wake.specs.declared.seats.Phase.TheVariants.{Idle, Waiting, Marked, Looked, Asleep}
use Rattle.bw_wake.specs.declared.seats.Phase.TheVariants.{Inside, Done, Served, Owes, Found, Wakes}
use Rattle.bw_wake.specs.declared.seats.Event.{Event}
use Rattle.bw_wake.specs.declared.seats.Event.TheVariants.{Take, Look, Mark, Park, SpuriousWake}
use Rattle.bw_wake.specs.declared.seats.Event.TheVariants.{Apply, Leave, PeekNext, PeekWord}
use Rattle.bw_wake.specs.declared.seats.Event.TheVariants.{TakeMark, Wake}
use Rattle.bw_wake.specs.Protocol.{WaitState, or_same, one_less, tickets_woken, word_of, mark_at}
use Rattle.bw_wake.specs.Protocol.{start, run, happens, after, is_possible, moved, marked, sleeps_on}
use Rattle.bw_wake.specs.Protocol.{wake_by}
use Rattle.bw_wake.specs.Progress.{one_if, count, sleeps, wakes, busy, seat_of}
use Rattle.bw_wake.specs.Rounds.{AreRounds, run_rounds}
use Rattle.bw_wake.specs.Rounds.{EightRoundsRaiseServing, DrawnTicketsAreServed}
use Rattle.bw_machine.proofs.CallerLemmas.{get_same, get_other}
use Rattle.bw_wake.proofs.Counts.{count_at}
use Rattle.bw_wake.proofs.Effects.{after_at, now, IsOther, other_seat, two_seats}
use Rattle.bw_wake.proofs.Effects.{mark_stays_gone, taken_is_gone, mine}
use Rattle.bw_wake.proofs.Invariant.{waits, may_sleep, Stands, Sound}
use Rattle.bw_wake.proofs.PeekFirst.{peeks_first}
use Rattle.bw_wake.proofs.Raising.{some_seat, one_is, none_looked}
use Rattle.bw_wake.proofs.Stages.{Good, good_after, good_run, good_rounds, rounds_le}
use Rattle.bw_wake.proofs.Stages.{rounds_drawn, Rises, more, not_possible, rises, IsAt, event_at}
use Rattle.bw_wake.proofs.Stages.{can_at, lands, stays_up, alone, Stage}
use Rattle.bw_wake.proofs.WakeSound.{start_sound, waits_once, none_any}
use Rattle.bw_wake.proofs.WordsApart.{to_next, words_apart}

own_done : (s : WaitState) (e : Event) → is_some (after_at s e (Some Done)) ≡ true
    → s.serving < (now s e (Some Done)).serving
own_done s (Take a) h = absurd (cc h)
own_done s (Look a) h = absurd (cc h)
own_done s (Mark a) h = absurd (cc h)
own_done s (Park a) h = absurd (cc h)
own_done s (SpuriousWake a) h = absurd (cc h)
own_done s (Apply a) h = absurd (cc h)
own_done s (Leave a) h = omega arith
own_done s (PeekNext a) h = absurd (cc h)
own_done s (PeekWord a) h = absurd (cc h)
own_done s (TakeMark a) h = absurd (cc h)
own_done s (Wake a j) h = absurd (cc h)

from_done : (s : WaitState) (i t : ℕ) → Good s → IsAt i Done t s → Rises 1 s
from_done s i t g h = rises 0 i (IsAt i Done t) (alone 0 i t Done refl
    (λ x e y at mine can same.
    let lt = own_done x e (can_at x e i Done at.0 mine can) in
    let is = ap (λ o. (or_same x o).serving) (event_at x e i Done at.0 mine) in
    absurd (omega arith))) s g h

own_inside : (s : WaitState) (e : Event) → is_some (after_at s e (Some Inside)) ≡ true
    → after_at s e (Some Inside) ≡ Some (moved s (seat_of e) Done)
own_inside s (Take a) h = absurd (cc h)
own_inside s (Look a) h = absurd (cc h)
own_inside s (Mark a) h = absurd (cc h)
own_inside s (Park a) h = absurd (cc h)
own_inside s (SpuriousWake a) h = absurd (cc h)
own_inside s (Apply a) h = refl
own_inside s (Leave a) h = absurd (cc h)
own_inside s (PeekNext a) h = absurd (cc h)
own_inside s (PeekWord a) h = absurd (cc h)
own_inside s (TakeMark a) h = absurd (cc h)
own_inside s (Wake a j) h = absurd (cc h)

from_inside : (s : WaitState) (i t : ℕ) → Good s → IsAt i Inside t s → Rises 2 s
from_inside s i t g h = rises 1 i (IsAt i Inside t) (alone 1 i t Inside refl
    (λ x e y at mine can same. from_done (happens x e) i t (good_after x e y)
    (lands x (moved x (seat_of e) Done) e i t Inside Done at.0 mine
    (event_at x e i Inside at.0 mine ∙ own_inside x e (can_at x e i Inside at.0 mine can)) refl
    same at.1))) s g h

own_marked : (s : WaitState) (e : Event) (t : ℕ) → t ≡ s.serving
    → is_some (after_at s e (Some (Marked t))) ≡ true
    → after_at s e (Some (Marked t)) ≡ Some (moved s (seat_of e) Inside)
own_marked s (Take a) t e h = absurd (cc h)
own_marked s (Look a) t e h =
    ap (λ b. Some (moved s a (if b then Inside else Looked t))) (eq-eqb t s.serving e)
own_marked s (Mark a) t e h = absurd (cc h)
own_marked s (Park a) t e h = absurd (cc h)
own_marked s (SpuriousWake a) t e h = absurd (cc h)
own_marked s (Apply a) t e h = absurd (cc h)
own_marked s (Leave a) t e h = absurd (cc h)
own_marked s (PeekNext a) t e h = absurd (cc h)
own_marked s (PeekWord a) t e h = absurd (cc h)
own_marked s (TakeMark a) t e h = absurd (cc h)
own_marked s (Wake a j) t e h = absurd (cc h)

from_marked : (s : WaitState) (i t : ℕ) → Good s → IsAt i (Marked t) t s → Rises 3 s
from_marked s i t g h = rises 2 i (IsAt i (Marked t) t) (alone 2 i t (Marked t) refl
    (λ x e y at mine can same. from_inside (happens x e) i t (good_after x e y)
    (lands x (moved x (seat_of e) Inside) e i t (Marked t) Inside at.0 mine
    (event_at x e i (Marked t) at.0 mine
    ∙ own_marked x e t (sym at.1) (can_at x e i (Marked t) at.0 mine can)) refl
    same at.1))) s g h

own_waiting : (s : WaitState) (e : Event) (t : ℕ) → t ≡ s.serving
    → is_some (after_at s e (Some (Waiting t))) ≡ true
    → (after_at s e (Some (Waiting t)) ≡ Some (moved s (seat_of e) Inside))
    ⊎ (after_at s e (Some (Waiting t)) ≡ Some (marked s (seat_of e) t))
own_waiting s (Take a) t e h = absurd (cc h)
own_waiting s (Look a) t e h =
    inl (ap (λ b. Some (if b then moved s a Inside else s)) (eq-eqb t s.serving e))
own_waiting s (Mark a) t e h = inr refl
own_waiting s (Park a) t e h = absurd (cc h)
own_waiting s (SpuriousWake a) t e h = absurd (cc h)
own_waiting s (Apply a) t e h = absurd (cc h)
own_waiting s (Leave a) t e h = absurd (cc h)
own_waiting s (PeekNext a) t e h = absurd (cc h)
own_waiting s (PeekWord a) t e h = absurd (cc h)
own_waiting s (TakeMark a) t e h = absurd (cc h)
own_waiting s (Wake a j) t e h = absurd (cc h)

-- at an event of a seat with the served ticket that leads inside, or to a mark
goes_inside : (s : WaitState) (e : Event) (i t : ℕ) (p : Phase) → Good s → IsAt i p t s
    → seat_of e ≡ i → (happens s e).serving ≡ s.serving
    → after_at s e (Some p) ≡ Some (moved s (seat_of e) Inside) → Rises 2 (happens s e)
goes_inside s e i t p g at mine same is = from_inside (happens s e) i t (good_after s e g)
    (lands s (moved s (seat_of e) Inside) e i t p Inside at.0 mine
    (event_at s e i p at.0 mine ∙ is) refl same at.1)

goes_to_mark : (s : WaitState) (e : Event) (i t : ℕ) (p : Phase) → Good s → IsAt i p t s
    → seat_of e ≡ i → (happens s e).serving ≡ s.serving
    → after_at s e (Some p) ≡ Some (marked s (seat_of e) t) → Rises 3 (happens s e)
goes_to_mark s e i t p g at mine same is = from_marked (happens s e) i t (good_after s e g)
    (lands s (marked s (seat_of e) t) e i t p (Marked t) at.0 mine
    (event_at s e i p at.0 mine ∙ is) refl same at.1)

from_waiting : (s : WaitState) (i t : ℕ) → Good s → IsAt i (Waiting t) t s → Rises 4 s
from_waiting s i t g h = rises 3 i (IsAt i (Waiting t) t) (alone 3 i t (Waiting t) refl
    (λ x e y at mine can same.
    ⊎_elim
    (λ is. more 2 3 (happens x e) (omega arith) (goes_inside x e i t (Waiting t) y at mine same is))
    (λ is. goes_to_mark x e i t (Waiting t) y at mine same is)
    (own_waiting x e t (sym at.1) (can_at x e i (Waiting t) at.0 mine can)))) s g h

goes_to_wait : (s : WaitState) (e : Event) (i t : ℕ) (p : Phase) → Good s → IsAt i p t s
    → seat_of e ≡ i → (happens s e).serving ≡ s.serving
    → after_at s e (Some p) ≡ Some (moved s (seat_of e) (Waiting t)) → Rises 4 (happens s e)
goes_to_wait s e i t p g at mine same is = from_waiting (happens s e) i t (good_after s e g)
    (lands s (moved s (seat_of e) (Waiting t)) e i t p (Waiting t) at.0 mine
    (event_at s e i p at.0 mine ∙ is) refl same at.1)

-- what a seat that has looked in vain can do, once its ticket is served
abbrev LookedGoes : WaitState → ℕ → ℕ → Option WaitState → Type 0
LookedGoes s a t o = (o ≡ Some (moved s a Inside)) ⊎ ((o ≡ Some (marked s a t))
    ⊎ ((o ≡ Some (moved s a (Waiting t))) ⊎ (Stands s t × (o ≡ Some (moved s a (Asleep t))))))

parked : (s : WaitState) (a t : ℕ) (b : Bool) → (mark_at s t == t + 1) ≡ b
    → LookedGoes s a t (Some (moved s a (if b then Asleep t else Waiting t)))
parked s a t true h = inr (inr (inr (eqb-true (mark_at s t) (t + 1) h, refl)))
parked s a t false h = inr (inr (inl refl))

own_looked : (s : WaitState) (e : Event) (t : ℕ) → t ≡ s.serving
    → is_some (after_at s e (Some (Looked t))) ≡ true
    → LookedGoes s (seat_of e) t (after_at s e (Some (Looked t)))
own_looked s (Take a) t e h = absurd (cc h)
own_looked s (Look a) t e h =
    inl (ap (λ b. Some (if b then moved s a Inside else s)) (eq-eqb t s.serving e))
own_looked s (Mark a) t e h = inr (inl refl)
own_looked s (Park a) t e h = parked s a t (mark_at s t == t + 1) refl
own_looked s (SpuriousWake a) t e h = absurd (cc h)
own_looked s (Apply a) t e h = absurd (cc h)
own_looked s (Leave a) t e h = absurd (cc h)
own_looked s (PeekNext a) t e h = absurd (cc h)
own_looked s (PeekWord a) t e h = absurd (cc h)
own_looked s (TakeMark a) t e h = absurd (cc h)
own_looked s (Wake a j) t e h = absurd (cc h)

own_asleep : (s : WaitState) (e : Event) (t : ℕ)
    → is_some (after_at s e (Some (Asleep t))) ≡ true
    → after_at s e (Some (Asleep t)) ≡ Some (moved s (seat_of e) (Waiting t))
own_asleep s (Take a) t h = absurd (cc h)
own_asleep s (Look a) t h = absurd (cc h)
own_asleep s (Mark a) t h = absurd (cc h)
own_asleep s (Park a) t h = absurd (cc h)
own_asleep s (SpuriousWake a) t h = refl
own_asleep s (Apply a) t h = absurd (cc h)
own_asleep s (Leave a) t h = absurd (cc h)
own_asleep s (PeekNext a) t h = absurd (cc h)
own_asleep s (PeekWord a) t h = absurd (cc h)
own_asleep s (TakeMark a) t h = absurd (cc h)
own_asleep s (Wake a j) t h = absurd (cc h)

-- a seat sleeps with the served ticket: any event lets it sleep on, or wakes it
asleep_goes : (s : WaitState) (e : Event) (j t : ℕ) → Good s → IsAt j (Asleep t) t s
    → (happens s e).serving ≡ s.serving
    → Rises 4 (happens s e) ⊎ IsAt j (Asleep t) t (happens s e)
asleep_goes s e j t g at same = by_seat (ℕ_discrete (seat_of e) j)
  where
    by_possible : (b : Bool) → is_possible s e ≡ b → seat_of e ≡ j
        → Rises 4 (happens s e) ⊎ IsAt j (Asleep t) t (happens s e)
    by_possible true can mine = inl (goes_to_wait s e j t (Asleep t) g at mine same
        (own_asleep s e t (can_at s e j (Asleep t) at.0 mine can)))
    by_possible false can mine =
        inr (subst (IsAt j (Asleep t) t) (sym (not_possible s (after s e) can)) at)

    by_other : IsOther s j (happens s e)
        → Rises 4 (happens s e) ⊎ IsAt j (Asleep t) t (happens s e)
    by_other (inl kept) = inr (kept ∙ at.0, same ∙ at.1)
    by_other (inr woken) =
        let is : Some (Asleep woken.0) ≡ Some (Asleep t) = sym woken.1 ∙ at.0 in
        let t_is : woken.0 ≡ t = cc is in
        inl (from_waiting (happens s e) j t (good_after s e g)
        (woken.2 ∙ ap (λ (x : ℕ). Some (Waiting x)) t_is, same ∙ at.1))

    by_seat : Dec (seat_of e ≡ j) → Rises 4 (happens s e) ⊎ IsAt j (Asleep t) t (happens s e)
    by_seat (yes mine) = by_possible (is_possible s e) refl mine
    by_seat (no ne) = by_other (other_seat s e j (λ m. ne (sym m)))

-- The seat j has the served ticket t and has looked in vain, or sleeps.
abbrev MaySleep : ℕ → ℕ → WaitState → Type 0
MaySleep j t s = IsAt j (Looked t) t s ⊎ IsAt j (Asleep t) t s

looked_goes : (s : WaitState) (e : Event) (j t : ℕ) → Good s → IsAt j (Looked t) t s
    → (happens s e).serving ≡ s.serving → Rises 4 (happens s e) ⊎ MaySleep j t (happens s e)
looked_goes s e j t g at same = by_seat (ℕ_discrete (seat_of e) j)
  where
    by_possible : (b : Bool) → is_possible s e ≡ b → seat_of e ≡ j
        → Rises 4 (happens s e) ⊎ MaySleep j t (happens s e)
    by_possible true can mine =
        ⊎_elim (λ is. inl (more 2 4 (happens s e) (omega arith)
        (goes_inside s e j t (Looked t) g at mine same is)))
        (λ z. ⊎_elim (λ is. inl (more 3 4 (happens s e) (omega arith)
        (goes_to_mark s e j t (Looked t) g at mine same is)))
        (λ y. ⊎_elim (λ is. inl (goes_to_wait s e j t (Looked t) g at mine same is))
        (λ (w : Stands s t
        × (after_at s e (Some (Looked t)) ≡ Some (moved s (seat_of e) (Asleep t)))).
        inr (inr (lands s (moved s (seat_of e) (Asleep t)) e j t (Looked t) (Asleep t) at.0 mine
        (event_at s e j (Looked t) at.0 mine ∙ w.1) refl same at.1))) y) z)
        (own_looked s e t (sym at.1) (can_at s e j (Looked t) at.0 mine can))
    by_possible false can mine =
        inr (inl (subst (IsAt j (Looked t) t) (sym (not_possible s (after s e) can)) at))

    by_seat : Dec (seat_of e ≡ j) → Rises 4 (happens s e) ⊎ MaySleep j t (happens s e)
    by_seat (yes mine) = by_possible (is_possible s e) refl mine
    by_seat (no ne) =
        inr (inl (stays_up s e j (Looked t) refl at.0 (λ m. ne (sym m)), same ∙ at.1))

sleeper_goes : (s : WaitState) (e : Event) (j t : ℕ) → Good s → MaySleep j t s
    → (happens s e).serving ≡ s.serving → Rises 4 (happens s e) ⊎ MaySleep j t (happens s e)
sleeper_goes s e j t g (inl at) same = looked_goes s e j t g at same
sleeper_goes s e j t g (inr at) same = ⊎_elim (λ r. inl r) (λ at'. inr (inr at'))
    (asleep_goes s e j t g at same)

some_word : (s : WaitState) (i : ℕ) (p : Phase) → Sound s → slice_get s.phases i ≡ Some p
    → 0 < length s.words
some_word s i p r at = let few = slice_get_within s.phases i p at in omega (arith, r.words)

-- It has looked in vain, and its mark is gone: it does not sleep.
abbrev HasLostMark : ℕ → ℕ → WaitState → Type 0
HasLostMark j t s = IsAt j (Looked t) t s × (mark_at s t ≢ t + 1)

lost_stage : (j t : ℕ) → Stage 4 j (HasLostMark j t)
lost_stage j t = record {
  up = λ s h. (Looked t, h.0.0, refl);
  own = λ s e g h mine can same.
      ⊎_elim (λ is. more 2 4 (happens s e) (omega arith)
      (goes_inside s e j t (Looked t) g h.0 mine same is))
      (λ z. ⊎_elim (λ is. more 3 4 (happens s e) (omega arith)
      (goes_to_mark s e j t (Looked t) g h.0 mine same is))
      (λ y. ⊎_elim (λ is. goes_to_wait s e j t (Looked t) g h.0 mine same is)
      (λ (w : Stands s t
      × (after_at s e (Some (Looked t)) ≡ Some (moved s (seat_of e) (Asleep t)))).
      absurd (h.1 w.0)) y) z)
      (own_looked s e t (sym h.0.1) (can_at s e j (Looked t) h.0.0 mine can));
  other = λ s e g h ne same. inr (
    (stays_up s e j (Looked t) refl h.0.0 ne, same ∙ h.0.1),
    mark_stays_gone s e j t (Looked t) g.0 h.0.0 (mine t) ne h.1
        (some_word s j (Looked t) g.0 h.0.0),
  );
}

-- It sleeps, and the seat i wakes it next.
abbrev IsWoken : ℕ → ℕ → ℕ → ℕ → WaitState → Type 0
IsWoken i j t n s = (slice_get s.phases i ≡ Some (Wakes t n)) × IsAt j (Asleep t) t s

-- the wake of the served ticket is of the seat that sleeps with it
wakes_it : (s : WaitState) (i j t n a : ℕ) (o : Option Phase) → Sound s → slice_get s.phases a ≡ o
    → slice_get s.phases j ≡ Some (Asleep t)
    → is_some (wake_by s i (Some (Wakes t n)) a o) ≡ true
    → (a ≡ j) × (wake_by s i (Some (Wakes t n)) a o
    ≡ Some (record s { phases = slice_set (slice_set s.phases i (one_less t n)) a (Waiting t) }))
wakes_it s i j t n a (Some (Asleep u)) r at asleep can = by_word (word_of s u == word_of s t) refl can
  where
    by_word : (b : Bool) → (word_of s u == word_of s t) ≡ b
        → is_some (if b then Some (record s {
          phases = slice_set (slice_set s.phases i (one_less t n)) a (Waiting u);
        }) else None) ≡ true
        → (a ≡ j) × ((if b then Some (record s {
          phases = slice_set (slice_set s.phases i (one_less t n)) a (Waiting u);
        }) else None)
        ≡ Some (record s { phases = slice_set (slice_set s.phases i (one_less t n)) a (Waiting t) }))
    by_word false h c = absurd (cc c)
    by_word true h c =
        let me = count_at (waits t) s.phases j (Asleep t) asleep in
        let it = count_at (waits u) s.phases a (Asleep u) at in
        let one = mine t in let one_u = mine u in
        let u_is : u ≡ t = words_apart s r u t (omega arith) (omega arith)
        (eqb-true (word_of s u) (word_of s t) h) in
        let once = waits_once s r t in
        let also : waits t (Asleep u) ≡ 1 = ap (λ x. one_if (x == t)) u_is ∙ mine t in (
          dite (ℕ_discrete a j) (λ (e : a ≡ j). e)
              (λ ne. let both = two_seats (waits t) s.phases j a (Asleep t) (Asleep u) refl ne asleep at in
              absurd (omega arith)),
          ap (λ (x : ℕ). Some (record s {
            phases = slice_set (slice_set s.phases i (one_less t n)) a (Waiting x);
          })) u_is,
        )
wakes_it s i j t n a _ r at asleep can =
    absurd (nobody (list_any (sleeps_on (length s.words) (word_of s t)) s.phases) refl can)
  where
    nobody : (b : Bool) → list_any (sleeps_on (length s.words) (word_of s t)) s.phases ≡ b
        → is_some (if b then None else Some (moved s i (one_less t n))) ≡ true → ⊥
    nobody true h c = cc c
    nobody false h c =
        let f = none_any (sleeps_on (length s.words) (word_of s t)) s.phases h in
        let g = count_at (λ p. one_if (sleeps_on (length s.words) (word_of s t) p)) s.phases j
        (Asleep t) asleep in
        let one = mine (word_of s t) in absurd (omega arith)

asleep_apart : (s : WaitState) (i j t n : ℕ) → IsWoken i j t n s → {a : ℕ} → a ≡ i → j ≢ a
asleep_apart s i j t n h {a} own m =
    absurd (cc (sym h.0 ∙ (ap (slice_get s.phases) (sym (m ∙ own)) ∙ h.1.0)))

own_wakes : (s : WaitState) (e : Event) (i j t n : ℕ) → Good s → IsWoken i j t n s
    → seat_of e ≡ i → is_some (after_at s e (Some (Wakes t n))) ≡ true
    → (happens s e).serving ≡ s.serving → IsAt j (Waiting t) t (happens s e)
own_wakes s (Take a) i j t n g h own can same = absurd (cc can)
own_wakes s (Look a) i j t n g h own can same = absurd (cc can)
own_wakes s (Mark a) i j t n g h own can same = absurd (cc can)
own_wakes s (Park a) i j t n g h own can same = absurd (cc can)
own_wakes s (SpuriousWake a) i j t n g h own can same = absurd (cc can)
own_wakes s (Apply a) i j t n g h own can same = absurd (cc can)
own_wakes s (Leave a) i j t n g h own can same = absurd (cc can)
own_wakes s (PeekNext a) i j t n g h own can same = absurd (cc can)
own_wakes s (PeekWord a) i j t n g h own can same = absurd (cc can)
own_wakes s (TakeMark a) i j t n g h own can same = absurd (cc can)
own_wakes s (Wake a b) i j t n g h own can same =
    let w = wakes_it s a j t n b (slice_get s.phases b) g.0 refl h.1.0 can in
    let mid : List Phase = slice_set s.phases a (one_less t n) in
    let is = event_at s (Wake a b) i (Wakes t n) h.0 own ∙ w.1 in
    let at_mid : slice_get mid j ≡ Some (Asleep t) =
    get_other s.phases a j (one_less t n) (asleep_apart s i j t n h own) ∙ h.1.0 in
    let there : slice_get (slice_set mid b (Waiting t)) j ≡ Some (Waiting t) =
    ap (λ (y : ℕ). slice_get (slice_set mid y (Waiting t)) j) w.0
    ∙ get_same mid j (Asleep t) (Waiting t) at_mid in
    (ap (λ o. slice_get (or_same s o).phases j) is ∙ there, same ∙ h.1.1)

woken_stage : (i j t n : ℕ) → Stage 4 i (IsWoken i j t n)
woken_stage i j t n = record {
  up = λ s h. (Wakes t n, h.0, refl);
  own = λ s e g h own can same. from_waiting (happens s e) j t (good_after s e g)
      (own_wakes s e i j t n g h own (can_at s e i (Wakes t n) h.0 own can) same);
  other = λ s e g h ne same. ⊎_elim (λ r. inl r)
      (λ at. inr (stays_up s e i (Wakes t n) refl h.0 ne, at)) (asleep_goes s e j t g h.1 same);
}

-- some seat wakes the sleeper of the served ticket next
from_waker : (s : WaitState) (i j t : ℕ) (p : Phase) → Good s → slice_get s.phases i ≡ Some p
    → 1 ≤ wakes t p → IsAt j (Asleep t) t s → Rises 5 s
from_waker s i j t Idle g at h asleep = absurd (omega arith)
from_waker s i j t (Waiting u) g at h asleep = absurd (omega arith)
from_waker s i j t (Marked u) g at h asleep = absurd (omega arith)
from_waker s i j t (Looked u) g at h asleep = absurd (omega arith)
from_waker s i j t (Asleep u) g at h asleep = absurd (omega arith)
from_waker s i j t Inside g at h asleep = absurd (omega arith)
from_waker s i j t Done g at h asleep = absurd (omega arith)
from_waker s i j t (Served k) g at h asleep = absurd (omega arith)
from_waker s i j t (Owes k n) g at h asleep = absurd (omega arith)
from_waker s i j t (Found k n) g at h asleep = absurd (omega arith)
from_waker s i j t (Wakes k n) g at h asleep =
    let k_is = one_is k t h in
    rises 4 i (IsWoken i j t n) (woken_stage i j t n) s g
    (at ∙ ap (λ (x : ℕ). Some (Wakes x n)) k_is, asleep)

-- the mark of the served ticket is gone
unmarked : (s : WaitState) (j t : ℕ) → Good s → MaySleep j t s → mark_at s t ≢ t + 1 → Rises 5 s
unmarked s j t g (inl at) gone = rises 4 j (HasLostMark j t) (lost_stage j t) s g (at, gone)
unmarked s j t g (inr at) gone =
    let here : 1 ≤ count (sleeps t) s.phases =
    (let a = count_at (sleeps t) s.phases j (Asleep t) at.0 in let b = mine t in omega arith) in
    ⊎_elim (λ (st : Stands s t). absurd (gone st))
    (λ (k : 1 ≤ count (wakes t) s.phases). let w = some_seat (wakes t) s.phases k in
    from_waker s w.0 j t w.1 g w.2 w.3 at)
    (g.0.mark_or_wake t here)

-- The seat i has seen the mark of the served ticket.
abbrev HasFound : ℕ → ℕ → ℕ → ℕ → WaitState → Type 0
HasFound i j t n s = (slice_get s.phases i ≡ Some (Found t n)) × MaySleep j t s

abbrev mark_off : WaitState → ℕ → ℕ → ℕ → WaitState
mark_off s a k n = record s {
  words = if mark_at s k == k + 1 then slice_set s.words (word_of s k) 0 else s.words;
  phases = slice_set s.phases a (Wakes k n);
}

own_found : (s : WaitState) (e : Event) (t n : ℕ)
    → is_some (after_at s e (Some (Found t n))) ≡ true
    → after_at s e (Some (Found t n)) ≡ Some (mark_off s (seat_of e) t n)
own_found s (Take a) t n h = absurd (cc h)
own_found s (Look a) t n h = absurd (cc h)
own_found s (Mark a) t n h = absurd (cc h)
own_found s (Park a) t n h = absurd (cc h)
own_found s (SpuriousWake a) t n h = absurd (cc h)
own_found s (Apply a) t n h = absurd (cc h)
own_found s (Leave a) t n h = absurd (cc h)
own_found s (PeekNext a) t n h = absurd (cc h)
own_found s (PeekWord a) t n h = absurd (cc h)
own_found s (TakeMark a) t n h = refl
own_found s (Wake a b) t n h = absurd (cc h)

found_stage : (i j t n : ℕ) → Stage 5 i (HasFound i j t n)
found_stage i j t n = record {
  up = λ s h. (Found t n, h.0, refl);
  own = λ s e g h own can same.
      let is = event_at s e i (Found t n) h.0 own
      ∙ own_found s e t n (can_at s e i (Found t n) h.0 own can) in
      ⊎_elim (λ r. more 4 5 (happens s e) (omega arith) r)
      (λ sl. unmarked (happens s e) j t (good_after s e g) sl
      (subst (λ o. mark_at (or_same s o) t ≢ t + 1) (sym is)
      (taken_is_gone s t (slice_set s.phases (seat_of e) (Wakes t n))
      (some_word s i (Found t n) g.0 h.0))))
      (sleeper_goes s e j t g h.1 same);
  other = λ s e g h ne same.
      ⊎_elim (λ r. inl (more 4 5 (happens s e) (omega arith) r))
      (λ sl. inr (stays_up s e i (Found t n) refl h.0 ne, sl)) (sleeper_goes s e j t g h.1 same);
}

from_found : (s : WaitState) (i j t n : ℕ) → Good s → HasFound i j t n s → Rises 6 s
from_found s i j t n g h = rises 5 i (HasFound i j t n) (found_stage i j t n) s g h

-- The seat i looks for the mark of the served ticket next, and finds it.
abbrev WillFind : ℕ → ℕ → ℕ → ℕ → WaitState → Type 0
WillFind i j t n s =
    (slice_get s.phases i ≡ Some (Owes t n)) × MaySleep j t s × Stands s t

own_owes : (s : WaitState) (e : Event) (t n : ℕ) → Stands s t
    → is_some (after_at s e (Some (Owes t n))) ≡ true
    → after_at s e (Some (Owes t n)) ≡ Some (moved s (seat_of e) (Found t n))
own_owes s (Take a) t n st h = absurd (cc h)
own_owes s (Look a) t n st h = absurd (cc h)
own_owes s (Mark a) t n st h = absurd (cc h)
own_owes s (Park a) t n st h = absurd (cc h)
own_owes s (SpuriousWake a) t n st h = absurd (cc h)
own_owes s (Apply a) t n st h = absurd (cc h)
own_owes s (Leave a) t n st h = absurd (cc h)
own_owes s (PeekNext a) t n st h = absurd (cc h)
own_owes s (PeekWord a) t n st h =
    ap (λ b. Some (moved s a (if b then Found t n else one_less t n)))
    (eq-eqb (mark_at s t) (t + 1) st)
own_owes s (TakeMark a) t n st h = absurd (cc h)
own_owes s (Wake a b) t n st h = absurd (cc h)

-- where the mark is gone after an event, five rounds are enough
marked_or_near : (s : WaitState) (e : Event) (j t : ℕ) → Good s → MaySleep j t (happens s e)
    → Rises 5 (happens s e) ⊎ Stands (happens s e) t
marked_or_near s e j t g sl = dite (ℕ_discrete (mark_at (happens s e) t) (t + 1)) (λ st. inr st)
    (λ gone. inl (unmarked (happens s e) j t (good_after s e g) sl gone))

owes_stage : (i j t n : ℕ) → Stage 6 i (WillFind i j t n)
owes_stage i j t n = record {
  up = λ s h. (Owes t n, h.0, refl);
  own = λ s e g h own can same.
      let is = event_at s e i (Owes t n) h.0 own
      ∙ own_owes s e t n h.2 (can_at s e i (Owes t n) h.0 own can) in
      ⊎_elim (λ r. more 4 6 (happens s e) (omega arith) r)
      (λ sl. from_found (happens s e) i j t n (good_after s e g) (
        (lands s (moved s (seat_of e) (Found t n)) e i s.serving (Owes t n) (Found t n) h.0 own is
            refl same refl).0,
        sl,
      ))
      (sleeper_goes s e j t g h.1 same);
  other = λ s e g h ne same.
      ⊎_elim (λ r. inl (more 4 6 (happens s e) (omega arith) r))
      (λ sl. ⊎_elim (λ r. inl (more 5 6 (happens s e) (omega arith) r))
      (λ st. inr (stays_up s e i (Owes t n) refl h.0 ne, sl, st)) (marked_or_near s e j t g sl))
      (sleeper_goes s e j t g h.1 same);
}

from_owes : (s : WaitState) (i j t n : ℕ) → Good s → WillFind i j t n s → Rises 7 s
from_owes s i j t n g h = rises 6 i (WillFind i j t n) (owes_stage i j t n) s g h

-- The seat i has left with the ticket before the served one.
abbrev HasLeft : ℕ → ℕ → ℕ → ℕ → WaitState → Type 0
HasLeft i j k t s =
    (slice_get s.phases i ≡ Some (Served k)) × (k + 1 ≡ t) × MaySleep j t s × Stands s t

own_served : (s : WaitState) (e : Event) (k : ℕ) → k + 1 < s.next
    → is_some (after_at s e (Some (Served k))) ≡ true
    → after_at s e (Some (Served k)) ≡ Some (moved s (seat_of e) (Owes (k + 1) tickets_woken))
own_served s (Take a) k lt h = absurd (cc h)
own_served s (Look a) k lt h = absurd (cc h)
own_served s (Mark a) k lt h = absurd (cc h)
own_served s (Park a) k lt h = absurd (cc h)
own_served s (SpuriousWake a) k lt h = absurd (cc h)
own_served s (Apply a) k lt h = absurd (cc h)
own_served s (Leave a) k lt h = absurd (cc h)
own_served s (PeekNext a) k lt h =
    ap (λ b. Some (moved s a (if b then Owes (k + 1) tickets_woken else Idle)))
    (le-leb (suc (k + 1)) s.next (omega arith))
own_served s (PeekWord a) k lt h = absurd (cc h)
own_served s (TakeMark a) k lt h = absurd (cc h)
own_served s (Wake a b) k lt h = absurd (cc h)

sleeper_drawn : (s : WaitState) (j t : ℕ) → Sound s → MaySleep j t s → t < s.next
sleeper_drawn s j t r (inl at) = to_next s r t
    (let a = count_at (waits t) s.phases j (Looked t) at.0 in let b = mine t in omega arith)
sleeper_drawn s j t r (inr at) = to_next s r t
    (let a = count_at (waits t) s.phases j (Asleep t) at.0 in let b = mine t in omega arith)

left_stage : (i j k t : ℕ) → Stage 7 i (HasLeft i j k t)
left_stage i j k t = record {
  up = λ s h. (Served k, h.0, refl);
  own = λ s e g h own can same.
      let t_is = h.1 in let lt = sleeper_drawn s j t g.0 h.2 in
      let is = event_at s e i (Served k) h.0 own
      ∙ own_served s e k (omega arith) (can_at s e i (Served k) h.0 own can) in
      let owes = (lands s (moved s (seat_of e) (Owes (k + 1) tickets_woken)) e i s.serving (Served k)
      (Owes (k + 1) tickets_woken) h.0 own is refl same refl).0
      ∙ ap (λ (x : ℕ). Some (Owes x tickets_woken)) h.1 in
      ⊎_elim (λ r. more 4 7 (happens s e) (omega arith) r)
      (λ sl. ⊎_elim (λ r. more 5 7 (happens s e) (omega arith) r)
      (λ st. from_owes (happens s e) i j t tickets_woken (good_after s e g) (owes, sl, st))
      (marked_or_near s e j t g sl))
      (sleeper_goes s e j t g h.2 same);
  other = λ s e g h ne same.
      ⊎_elim (λ r. inl (more 4 7 (happens s e) (omega arith) r))
      (λ sl. ⊎_elim (λ r. inl (more 5 7 (happens s e) (omega arith) r))
      (λ st. inr (stays_up s e i (Served k) refl h.0 ne, h.1, sl, st))
      (marked_or_near s e j t g sl))
      (sleeper_goes s e j t g h.2 same);
}

-- some seat has the mark of the served ticket to look for first of all
from_first : (s : WaitState) (i j t : ℕ) (p : Phase) → Good s → slice_get s.phases i ≡ Some p
    → 1 ≤ peeks_first t p → MaySleep j t s → Stands s t → Rises 8 s
from_first s i j t Idle g at h sl st = absurd (omega arith)
from_first s i j t (Waiting u) g at h sl st = absurd (omega arith)
from_first s i j t (Marked u) g at h sl st = absurd (omega arith)
from_first s i j t (Looked u) g at h sl st = absurd (omega arith)
from_first s i j t (Asleep u) g at h sl st = absurd (omega arith)
from_first s i j t Inside g at h sl st = absurd (omega arith)
from_first s i j t Done g at h sl st = absurd (omega arith)
from_first s i j t (Served k) g at h sl st =
    rises 7 i (HasLeft i j k t) (left_stage i j k t) s g (at, one_is (k + 1) t h, sl, st)
from_first s i j t (Owes k n) g at h sl st = more 7 8 s (omega arith)
    (from_owes s i j t n g (at ∙ ap (λ (x : ℕ). Some (Owes x n)) (one_is k t h), sl, st))
from_first s i j t (Found k n) g at h sl st = more 6 8 s (omega arith)
    (from_found s i j t n g (at ∙ ap (λ (x : ℕ). Some (Found x n)) (one_is k t h), sl))
from_first s i j t (Wakes k n) g at h sl st = absurd (omega arith)

counts : (s : WaitState) (j t : ℕ) → MaySleep j t s → 1 ≤ count (may_sleep t) s.phases
counts s j t (inl at) =
    let a = count_at (may_sleep t) s.phases j (Looked t) at.0 in let b = mine t in omega arith
counts s j t (inr at) =
    let a = count_at (may_sleep t) s.phases j (Asleep t) at.0 in let b = mine t in omega arith

from_sleeper : (s : WaitState) (j : ℕ) → Good s → MaySleep j s.serving s → Rises 8 s
from_sleeper s j g sl = dite (ℕ_discrete (mark_at s s.serving) (s.serving + 1))
    (λ st. let w = some_seat (peeks_first s.serving) s.phases (g.1 (counts s j s.serving sl) st) in
    from_first s w.0 j s.serving w.1 g w.2 w.3 sl st)
    (λ gone. more 5 8 s (omega arith) (unmarked s j s.serving g sl gone))

-- the seat of the served ticket waits, in one way or another
from_waits : (s : WaitState) (i : ℕ) (p : Phase) → Good s → slice_get s.phases i ≡ Some p
    → 1 ≤ waits s.serving p → Rises 8 s
from_waits s i Idle g at h = absurd (omega arith)
from_waits s i (Waiting u) g at h = more 4 8 s (omega arith) (from_waiting s i s.serving g
    (at ∙ ap (λ (x : ℕ). Some (Waiting x)) (one_is u s.serving h), refl))
from_waits s i (Marked u) g at h = more 3 8 s (omega arith) (from_marked s i s.serving g
    (at ∙ ap (λ (x : ℕ). Some (Marked x)) (one_is u s.serving h), refl))
from_waits s i (Looked u) g at h = from_sleeper s i g
    (inl (at ∙ ap (λ (x : ℕ). Some (Looked x)) (one_is u s.serving h), refl))
from_waits s i (Asleep u) g at h = from_sleeper s i g
    (inr (at ∙ ap (λ (x : ℕ). Some (Asleep x)) (one_is u s.serving h), refl))
from_waits s i Inside g at h = absurd (omega arith)
from_waits s i Done g at h = absurd (omega arith)
from_waits s i (Served k) g at h = absurd (omega arith)
from_waits s i (Owes k n) g at h = absurd (omega arith)
from_waits s i (Found k n) g at h = absurd (omega arith)
from_waits s i (Wakes k n) g at h = absurd (omega arith)

from_busy : (s : WaitState) (i : ℕ) (p : Phase) → Good s → slice_get s.phases i ≡ Some p
    → 1 ≤ busy p → Rises 8 s
from_busy s i Idle g at h = absurd (omega arith)
from_busy s i (Waiting u) g at h = absurd (omega arith)
from_busy s i (Marked u) g at h = absurd (omega arith)
from_busy s i (Looked u) g at h = absurd (omega arith)
from_busy s i (Asleep u) g at h = absurd (omega arith)
from_busy s i Inside g at h = more 2 8 s (omega arith) (from_inside s i s.serving g (at, refl))
from_busy s i Done g at h = more 1 8 s (omega arith) (from_done s i s.serving g (at, refl))
from_busy s i (Served k) g at h = absurd (omega arith)
from_busy s i (Owes k n) g at h = absurd (omega arith)
from_busy s i (Found k n) g at h = absurd (omega arith)
from_busy s i (Wakes k n) g at h = absurd (omega arith)

eight_rounds : (s : WaitState) → Good s → s.serving < s.next → Rises 8 s
eight_rounds s g lt = let one = g.0.turn lt in
    dite (dec_le 1 (count busy s.phases))
    (λ (h : 1 ≤ count busy s.phases). let w = some_seat busy s.phases h in
    from_busy s w.0 w.1 g w.2 w.3)
    (λ n. let w = some_seat (waits s.serving) s.phases (omega arith) in
    from_waits s w.0 w.1 g w.2 w.3)

good_start : (seats words : ℕ) → seats ≤ words → Good (start seats words)
good_start seats words le = (
  start_sound seats words le,
  λ some st. absurd (let z = none_looked 0 seats in omega arith),
)

-- so many rounds, and the others
first_rounds : (n : ℕ) (s : WaitState) (rounds : List (List Event)) → n ≤ length rounds
    → AreRounds s rounds
    → (a : List (List Event)) × (b : List (List Event)) × (length a ≡ n)
    × (n + length b ≡ length rounds) × AreRounds s a × AreRounds (run_rounds s a) b
    × (run_rounds s rounds ≡ run_rounds (run_rounds s a) b)
first_rounds zero s rounds le are = ([], rounds, refl, omega arith, tt, are, refl)
first_rounds (suc n) s [] le are = absurd (omega arith)
first_rounds (suc n) s (r ∷ rs) le are =
    let f = first_rounds n (run s r) rs (omega arith) are.1 in
    let long = f.2 in let all = f.3 in
    (r ∷ f.0, f.1, omega arith, omega arith, (are.0, f.4), f.5, f.6)

in_time : (n : ℕ) (s : WaitState) (rounds : List (List Event)) (ticket : ℕ) → Good s
    → ticket < s.next → ticket + 1 - s.serving ≤ n → 8 * n ≤ length rounds → AreRounds s rounds
    → ticket < (run_rounds s rounds).serving
in_time zero s rounds ticket g lt near few are = let le = rounds_le s rounds in omega arith
in_time (suc n) s rounds ticket g lt near few are = dite (dec_le (suc ticket) s.serving)
    (λ (past : ticket < s.serving). let le = rounds_le s rounds in omega arith)
    (λ ahead. let f = first_rounds 8 s rounds (omega arith) are in
    let long = f.2 in let all = f.3 in
    let up : s.serving < (run_rounds s f.0).serving =
    eight_rounds s g (omega arith) [] f.0 (omega arith) f.4 in
    let more_drawn = rounds_drawn s f.0 in
    let k = in_time n (run_rounds s f.0) f.1 ticket (good_rounds s f.0 g) (omega arith) (omega arith)
    (omega arith) f.5 in
    subst (λ (x : WaitState). ticket < x.serving) (sym f.6) k)

pub eight_rounds_raise_serving : EightRoundsRaiseServing
eight_rounds_raise_serving seats words events rounds le lt few are =
    eight_rounds (run (start seats words) events)
    (good_run (start seats words) events (good_start seats words le)) lt [] rounds few are

pub drawn_tickets_are_served : DrawnTicketsAreServed
drawn_tickets_are_served seats words events rounds ticket le lt few are =
    in_time (ticket + 1 - (run (start seats words) events).serving) (run (start seats words) events)
    rounds ticket (good_run (start seats words) events (good_start seats words le)) lt (omega arith)
    few are
