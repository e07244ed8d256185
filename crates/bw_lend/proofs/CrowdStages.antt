-- Stages on the way to the next ticket. One seat is to make the event that ends a stage, and no
-- event of another seat leads back.
use Rattle.std.proofs.Common.{◌≡◌, ◌≢◌, ℕ, suc, ◌<◌, ◌≤◌, ◌⊎◌, List, [], ◌∷◌, length}
use Rattle.std.proofs.Common.{Option, Some, None, Bool, true, false, refl, sym, ap, ◌∙◌, subst}
use Rattle.std.proofs.Common.{arith}
use Rattle.std.proofs.Common.{inl, inr, ⊎_elim, is_some}
use native.Mathlib.Decide.{ℕ_discrete}
use Rattle.bw_lend.specs.Crowd.{Asleep, Reading, Phase, Has, Crowd, Event}
use Rattle.bw_lend.specs.Crowd.{or_same, after, happens, is_possible, run}
use Rattle.bw_lend.specs.CrowdLaws.{seat_of, is_still}
use Rattle.bw_lend.specs.CrowdRounds.{MakesOne, AreRounds, run_rounds}
use Rattle.bw_lend.proofs.CrowdInvariant.{Sound}
use Rattle.bw_lend.proofs.CrowdRuns.{happens_sound, run_sound}
use Rattle.bw_lend.proofs.CrowdEffects.{after_at, after_is, beside}

pub rounds_sound : (s : Crowd) (rs : List (List Event)) → Sound s → Sound (run_rounds s rs)
rounds_sound s [] g = g
rounds_sound s (r ∷ rs) g = rounds_sound (run s r) rs (run_sound s r g)

-- the ticket that is served never falls
event_le : (s : Crowd) (e : Event) → Sound s → s.serving ≤ (happens s e).serving
event_le s e g = ⊎_elim (λ (same : (happens s e).serving ≡ s.serving). omega arith)
    (λ (lt : s.serving < (happens s e).serving). omega arith) ((beside s e (seat_of e) g).2)

pub run_le : (s : Crowd) (es : List Event) → Sound s → s.serving ≤ (run s es).serving
run_le s [] g = omega arith
run_le s (e ∷ es) g = let a = event_le s e g in
    let b = run_le (happens s e) es (happens_sound s e g) in omega arith

pub rounds_le : (s : Crowd) (rs : List (List Event)) → Sound s
    → s.serving ≤ (run_rounds s rs).serving
rounds_le s [] g = omega arith
rounds_le s (r ∷ rs) g = let a = run_le s r g in
    let b = rounds_le (run s r) rs (run_sound s r g) in omega arith

pub run_drawn : (s : Crowd) (es : List Event) → Sound s → s.next ≤ (run s es).next
run_drawn s [] g = omega arith
run_drawn s (e ∷ es) g = let a = (beside s e (seat_of e) g).3 in
    let b = run_drawn (happens s e) es (happens_sound s e g) in omega arith

pub rounds_drawn : (s : Crowd) (rs : List (List Event)) → Sound s
    → s.next ≤ (run_rounds s rs).next
rounds_drawn s [] g = omega arith
rounds_drawn s (r ∷ rs) g = let a = run_drawn s r g in
    let b = rounds_drawn (run s r) rs (run_sound s r g) in omega arith

-- whatever happens first, n rounds after it raise the ticket that is served
abbrev pub Rises : ℕ → Crowd → Type 0
Rises n s = (before : List Event) (rounds : List (List Event)) → n ≤ length rounds
    → AreRounds (run s before) rounds
    → s.serving < (run_rounds (run s before) rounds).serving

pub more : (m n : ℕ) (s : Crowd) → m ≤ n → Rises m s → Rises n s
more m n s le h = λ before rounds few are. h before rounds (omega arith) are

-- A stage on the way: P holds, and the event of the seat i is the next one. That event leads to a
-- state from where n rounds are enough. An event of another seat does so too, or P still holds.
pub record Way (n i : ℕ) (P : Crowd → Type 0) : Type 0 where
  pub up : (s : Crowd) → P s → is_still (s.phase i) ≡ false
  pub own : (s : Crowd) (e : Event) → Sound s → P s → seat_of e ≡ i → is_possible s e ≡ true
      → (happens s e).serving ≡ s.serving → Rises n (happens s e)
  pub other : (s : Crowd) (e : Event) → Sound s → P s → i ≢ seat_of e
      → (happens s e).serving ≡ s.serving → Rises n (happens s e) ⊎ P (happens s e)

abbrev Goes : ℕ → ℕ → (Crowd → Type 0) → Crowd → Event → Type 0
Goes n i P s e = (s.serving < (happens s e).serving) ⊎ (Rises n (happens s e)
    ⊎ (P (happens s e) × (seat_of e ≡ i → is_possible s e ≡ true → ⊥)))

pub not_possible : (s : Crowd) (o : Option Crowd) → is_some o ≡ false → or_same s o ≡ s
not_possible s (Some x) h = absurd (cc h)
not_possible s None h = refl

goes : (n i : ℕ) (P : Crowd → Type 0) → Way n i P → (s : Crowd) (e : Event) → Sound s
    → P s → Goes n i P s e
goes n i P st s e g h = ⊎_elim (λ same. by_seat same (ℕ_discrete (seat_of e) i)) (λ lt. inl lt)
    ((beside s e (seat_of e) g).2)
  where
    by_possible : (b : Bool) → is_possible s e ≡ b → seat_of e ≡ i
        → (happens s e).serving ≡ s.serving → Goes n i P s e
    by_possible true can mine same = inr (inl (st.own s e g h mine can same))
    by_possible false can mine same =
        inr (inr (
          subst P (sym (not_possible s (after s e) can)) h,
          λ m poss. cc (sym poss ∙ can),
        ))

    by_seat : (happens s e).serving ≡ s.serving → Dec (seat_of e ≡ i) → Goes n i P s e
    by_seat same (yes mine) = by_possible (is_possible s e) refl mine same
    by_seat same (no ne) = ⊎_elim (λ r. inr (inl r)) (λ p. inr (inr (p, λ m. absurd (ne m))))
        (st.other s e g h (λ m. ne (sym m)) same)

in_round : (n i : ℕ) (P : Crowd → Type 0) → Way n i P → (s : Crowd) (r : List Event)
    (rs : List (List Event)) → Sound s → P s → MakesOne i s r → n ≤ length rs
    → AreRounds (run s r) rs → s.serving < (run_rounds (run s r) rs).serving
in_round n i P st s [] rs g h makes few are = absurd makes
in_round n i P st s (e ∷ es) rs g h makes few are =
    let y = happens_sound s e g in
    let le = event_le s e g in let le_run = run_le (happens s e) es y in
    let le_rounds = rounds_le (run (happens s e) es) rs (run_sound (happens s e) es y) in
    ⊎_elim (λ (lt : s.serving < (happens s e).serving). omega arith)
    (λ z. ⊎_elim (λ (r : Rises n (happens s e)). let k = r es rs few are in omega arith)
    (λ (p : P (happens s e) × (seat_of e ≡ i → is_possible s e ≡ true → ⊥)).
    ⊎_elim (λ (m : (seat_of e ≡ i) × (is_possible s e ≡ true)). absurd (p.1 m.0 m.1))
    (λ (m : MakesOne i (happens s e) es).
    let k = in_round n i P st (happens s e) es rs y p.0 m few are in omega arith)
    makes) z)
    (goes n i P st s e g h)

pub rises : (n i : ℕ) (P : Crowd → Type 0) → Way n i P → (s : Crowd) → Sound s → P s
    → Rises (suc n) s
rises n i P st s g h [] [] few are = absurd (omega arith)
rises n i P st s g h [] (r ∷ rs) few are =
    in_round n i P st s r rs g h (are.0 i (st.up s h)) (omega arith) are.1
rises n i P st s g h (e ∷ es) rounds few are =
    let y = happens_sound s e g in
    let le = event_le s e g in let le_run = run_le (happens s e) es y in
    let le_rounds = rounds_le (run (happens s e) es) rounds (run_sound (happens s e) es y) in
    ⊎_elim (λ (lt : s.serving < (happens s e).serving). omega arith)
    (λ z. ⊎_elim
    (λ (r : Rises n (happens s e)). let k = r es rounds (omega arith) are in omega arith)
    (λ (p : P (happens s e) × (seat_of e ≡ i → is_possible s e ≡ true → ⊥)).
    let k = rises n i P st (happens s e) y p.0 es rounds few are in omega arith) z)
    (goes n i P st s e g h)

-- The seat i is in the phase p, and the ticket t is served.
abbrev pub IsAt : ℕ → Phase → ℕ → Crowd → Type 0
IsAt i p t s = (s.phase i ≡ p) × (s.serving ≡ t)

-- an event of a seat in this phase
pub event_at : (s : Crowd) (e : Event) (i : ℕ) (p : Phase) → s.phase i ≡ p
    → seat_of e ≡ i → after s e ≡ after_at s e p
event_at s e i p at mine = after_is s e ∙ ap (after_at s e) (ap s.phase mine ∙ at)

pub can_at : (s : Crowd) (e : Event) (i : ℕ) (p : Phase) → s.phase i ≡ p
    → seat_of e ≡ i → is_possible s e ≡ true → is_some (after_at s e p) ≡ true
can_at s e i p at mine can = sym (ap is_some (event_at s e i p at mine)) ∙ can

-- a seat that is up stays where it is at an event of another
pub stays_up : (s : Crowd) (e : Event) (i : ℕ) (p : Phase) → Sound s → is_still p ≡ false
    → s.phase i ≡ p → i ≢ seat_of e → (happens s e).phase i ≡ p
stays_up s e i p g awake at ne =
    ⊎_elim (λ (same : (happens s e).phase i ≡ s.phase i). same ∙ at)
    (λ (w : (t : ℕ) × (s.phase i ≡ Has t Asleep) × ((happens s e).phase i ≡ Has t Reading)).
    let q : p ≡ Has w.0 Asleep = sym at ∙ w.1 in absurd (cc (sym awake ∙ ap is_still q)))
    ((beside s e i g).0 ne)

-- a stage of one seat alone
pub alone : (n i t : ℕ) (p : Phase) → is_still p ≡ false
    → ((s : Crowd) (e : Event) → Sound s → IsAt i p t s → seat_of e ≡ i
    → is_possible s e ≡ true → (happens s e).serving ≡ s.serving → Rises n (happens s e))
    → Way n i (IsAt i p t)
alone n i t p awake own = record {
  up = λ s h. ap is_still h.0 ∙ awake;
  own = own;
  other = λ s e g h ne same. inr (stays_up s e i p g awake h.0 ne, same ∙ h.1);
}
