-- Stages on the way to the next ticket. One seat is to make the event that ends a stage, and no
-- event of another seat leads back.
use Rattle.std.proofs.Common.{◌≡◌, ◌≢◌, ℕ, suc, ◌<◌, ◌≤◌, ◌⊎◌}
use Rattle.std.proofs.Common.{Bool, true, false, List, [], ◌∷◌, length, refl, sym, ap, ◌∙◌}
use Rattle.std.proofs.Common.{subst, inl, inr, ⊎_elim, arith, slice_get, slice_set, Some, None}
use Rattle.std.proofs.Common.{Option, is_some}
use native.Mathlib.Decide.{ℕ_discrete}
use Rattle.bw_wake.specs.declared.seats.Phase.{Phase}
use Rattle.bw_wake.specs.declared.seats.Phase.TheVariants.{Waiting, Asleep}
use Rattle.bw_wake.specs.declared.seats.Event.{Event}
use Rattle.bw_wake.specs.Protocol.{WaitState, or_same}
use Rattle.bw_wake.specs.Protocol.{run, happens, after, is_possible}
use Rattle.bw_wake.specs.Progress.{seat_of, is_still}
use Rattle.bw_wake.specs.Rounds.{MakesOne, AreRounds, run_rounds}
use Rattle.bw_machine.proofs.CallerLemmas.{get_same}
use Rattle.bw_wake.proofs.Effects.{after_at, after_is, other_seat, serves}
use Rattle.bw_wake.proofs.Effects.{draws}
use Rattle.bw_wake.proofs.Invariant.{Sound}
use Rattle.bw_wake.proofs.PeekFirst.{PeekIsFirst, happens_first}
use Rattle.bw_wake.proofs.RunSound.{happens_sound}

abbrev pub Good : WaitState → Type 0
Good s = Sound s × PeekIsFirst s

pub good_after : (s : WaitState) (e : Event) → Good s → Good (happens s e)
good_after s e g = (happens_sound s e g.0, happens_first s e g.0 g.1)

pub good_run : (s : WaitState) (es : List Event) → Good s → Good (run s es)
good_run s [] g = g
good_run s (e ∷ es) g = good_run (happens s e) es (good_after s e g)

pub good_rounds : (s : WaitState) (rs : List (List Event)) → Good s → Good (run_rounds s rs)
good_rounds s [] g = g
good_rounds s (r ∷ rs) g = good_rounds (run s r) rs (good_run s r g)

-- the ticket that is served never falls
event_le : (s : WaitState) (e : Event) → s.serving ≤ (happens s e).serving
event_le s e = ⊎_elim (λ (same : (happens s e).serving ≡ s.serving). omega arith)
    (λ (lt : s.serving < (happens s e).serving). omega arith) (serves s e)

run_le : (s : WaitState) (es : List Event) → s.serving ≤ (run s es).serving
run_le s [] = omega arith
run_le s (e ∷ es) = let a = event_le s e in let b = run_le (happens s e) es in omega arith

pub rounds_le : (s : WaitState) (rs : List (List Event)) → s.serving ≤ (run_rounds s rs).serving
rounds_le s [] = omega arith
rounds_le s (r ∷ rs) = let a = run_le s r in let b = rounds_le (run s r) rs in omega arith

run_drawn : (s : WaitState) (es : List Event) → s.next ≤ (run s es).next
run_drawn s [] = omega arith
run_drawn s (e ∷ es) = let a = draws s e in let b = run_drawn (happens s e) es in omega arith

pub rounds_drawn : (s : WaitState) (rs : List (List Event)) → s.next ≤ (run_rounds s rs).next
rounds_drawn s [] = omega arith
rounds_drawn s (r ∷ rs) =
    let a = run_drawn s r in let b = rounds_drawn (run s r) rs in omega arith

-- whatever happens first, n rounds after it raise the ticket that is served
abbrev pub Rises : ℕ → WaitState → Type 0
Rises n s = (before : List Event) (rounds : List (List Event)) → n ≤ length rounds
    → AreRounds (run s before) rounds
    → s.serving < (run_rounds (run s before) rounds).serving

pub more : (m n : ℕ) (s : WaitState) → m ≤ n → Rises m s → Rises n s
more m n s le h = λ before rounds few are. h before rounds (omega arith) are

-- A stage on the way: P holds, and the event of the seat i is the next one. That event leads to a
-- state from where n rounds are enough. An event of another seat does so too, or P still holds.
pub record Stage (n i : ℕ) (P : WaitState → Type 0) : Type 0 where
  pub up : (s : WaitState) → P s → (p : Phase) × (slice_get s.phases i ≡ Some p) × (is_still p ≡ false)
  pub own : (s : WaitState) (e : Event) → Good s → P s → seat_of e ≡ i → is_possible s e ≡ true
      → (happens s e).serving ≡ s.serving → Rises n (happens s e)
  pub other : (s : WaitState) (e : Event) → Good s → P s → i ≢ seat_of e
      → (happens s e).serving ≡ s.serving → Rises n (happens s e) ⊎ P (happens s e)

abbrev Goes : ℕ → ℕ → (WaitState → Type 0) → WaitState → Event → Type 0
Goes n i P s e = (s.serving < (happens s e).serving) ⊎ (Rises n (happens s e)
    ⊎ (P (happens s e) × (seat_of e ≡ i → is_possible s e ≡ true → ⊥)))

pub not_possible : (s : WaitState) (o : Option WaitState) → is_some o ≡ false → or_same s o ≡ s
not_possible s (Some x) h = absurd (cc h)
not_possible s None h = refl

goes : (n i : ℕ) (P : WaitState → Type 0) → Stage n i P → (s : WaitState) (e : Event) → Good s
    → P s → Goes n i P s e
goes n i P st s e g h = ⊎_elim (λ same. by_seat same (ℕ_discrete (seat_of e) i)) (λ lt. inl lt)
    (serves s e)
  where
    by_possible : (b : Bool) → is_possible s e ≡ b → seat_of e ≡ i
        → (happens s e).serving ≡ s.serving → Goes n i P s e
    by_possible true can mine same = inr (inl (st.own s e g h mine can same))
    by_possible false can mine same =
        inr (inr (
          subst P (sym (not_possible s (after s e) can)) h,
          λ m poss. cc (sym poss ∙ can),
        ))

    by_seat : (happens s e).serving ≡ s.serving → Dec (seat_of e ≡ i) → Goes n i P s e
    by_seat same (yes mine) = by_possible (is_possible s e) refl mine same
    by_seat same (no ne) = ⊎_elim (λ r. inr (inl r)) (λ p. inr (inr (p, λ m. absurd (ne m))))
        (st.other s e g h (λ m. ne (sym m)) same)

in_round : (n i : ℕ) (P : WaitState → Type 0) → Stage n i P → (s : WaitState) (r : List Event)
    (rs : List (List Event)) → Good s → P s → MakesOne i s r → n ≤ length rs
    → AreRounds (run s r) rs → s.serving < (run_rounds (run s r) rs).serving
in_round n i P st s [] rs g h makes few are = absurd makes
in_round n i P st s (e ∷ es) rs g h makes few are =
    let le = event_le s e in let le_run = run_le (happens s e) es in
    let le_rounds = rounds_le (run (happens s e) es) rs in
    ⊎_elim (λ (lt : s.serving < (happens s e).serving). omega arith)
    (λ z. ⊎_elim (λ (r : Rises n (happens s e)). let k = r es rs few are in omega arith)
    (λ (p : P (happens s e) × (seat_of e ≡ i → is_possible s e ≡ true → ⊥)).
    ⊎_elim (λ (m : (seat_of e ≡ i) × (is_possible s e ≡ true)). absurd (p.1 m.0 m.1))
    (λ (m : MakesOne i (happens s e) es).
    let k = in_round n i P st (happens s e) es rs (good_after s e g) p.0 m few are in omega arith)
    makes) z)
    (goes n i P st s e g h)

pub rises : (n i : ℕ) (P : WaitState → Type 0) → Stage n i P → (s : WaitState) → Good s → P s
    → Rises (suc n) s
rises n i P st s g h [] [] few are = absurd (omega arith)
rises n i P st s g h [] (r ∷ rs) few are = let w = st.up s h in
    in_round n i P st s r rs g h (are.0 i w.0 w.1 w.2) (omega arith) are.1
rises n i P st s g h (e ∷ es) rounds few are =
    let le = event_le s e in let le_run = run_le (happens s e) es in
    let le_rounds = rounds_le (run (happens s e) es) rounds in
    ⊎_elim (λ (lt : s.serving < (happens s e).serving). omega arith)
    (λ z. ⊎_elim (λ (r : Rises n (happens s e)). let k = r es rounds (omega arith) are in omega arith)
    (λ (p : P (happens s e) × (seat_of e ≡ i → is_possible s e ≡ true → ⊥)).
    let k = rises n i P st (happens s e) (good_after s e g) p.0 es rounds few are in omega arith) z)
    (goes n i P st s e g h)

-- The seat i is in the phase p, and the ticket t is served.
abbrev pub IsAt : ℕ → Phase → ℕ → WaitState → Type 0
IsAt i p t s = (slice_get s.phases i ≡ Some p) × (s.serving ≡ t)

-- an event of a seat in this phase
pub event_at : (s : WaitState) (e : Event) (i : ℕ) (p : Phase) → slice_get s.phases i ≡ Some p
    → seat_of e ≡ i → after s e ≡ after_at s e (Some p)
event_at s e i p at mine = after_is s e ∙ ap (after_at s e) (ap (slice_get s.phases) mine ∙ at)

pub can_at : (s : WaitState) (e : Event) (i : ℕ) (p : Phase) → slice_get s.phases i ≡ Some p
    → seat_of e ≡ i → is_possible s e ≡ true → is_some (after_at s e (Some p)) ≡ true
can_at s e i p at mine can = sym (ap is_some (event_at s e i p at mine)) ∙ can

-- where its seat has moved
pub lands : (s x : WaitState) (e : Event) (i t : ℕ) (p q : Phase) → slice_get s.phases i ≡ Some p
    → seat_of e ≡ i → after s e ≡ Some x → x.phases ≡ slice_set s.phases (seat_of e) q
    → (happens s e).serving ≡ s.serving → s.serving ≡ t → IsAt i q t (happens s e)
lands s x e i t p q at mine is moves same served =
    let there : slice_get x.phases i ≡ Some q =
    ap (λ ps. slice_get ps i) (moves ∙ ap (λ (y : ℕ). slice_set s.phases y q) mine)
    ∙ get_same s.phases i p q at in
    (ap (λ o. slice_get (or_same s o).phases i) is ∙ there, same ∙ served)

-- a seat that is up stays where it is at an event of another
pub stays_up : (s : WaitState) (e : Event) (i : ℕ) (p : Phase) → is_still p ≡ false
    → slice_get s.phases i ≡ Some p → i ≢ seat_of e → slice_get (happens s e).phases i ≡ Some p
stays_up s e i p awake at ne =
    ⊎_elim (λ (same : slice_get (happens s e).phases i ≡ slice_get s.phases i). same ∙ at)
    (λ (w : (t : ℕ) × (slice_get s.phases i ≡ Some (Asleep t))
    × (slice_get (happens s e).phases i ≡ Some (Waiting t))).
    let same : Some p ≡ Some (Asleep w.0) = sym at ∙ w.1 in
    let q : p ≡ Asleep w.0 = cc same in absurd (cc (sym awake ∙ ap is_still q)))
    (other_seat s e i ne)

-- a stage of one seat alone
pub alone : (n i t : ℕ) (p : Phase) → is_still p ≡ false
    → ((s : WaitState) (e : Event) → Good s → IsAt i p t s → seat_of e ≡ i
    → is_possible s e ≡ true → (happens s e).serving ≡ s.serving → Rises n (happens s e))
    → Stage n i (IsAt i p t)
alone n i t p awake own = record {
  up = λ s h. (p, h.0, awake);
  own = own;
  other = λ s e g h ne same. inr (stays_up s e i p awake h.0 ne, same ∙ h.1);
}
