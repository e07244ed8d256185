-- The invariant is kept by the events of a seat that has left.
use Rattle.std.proofs.Common.{◌≡◌, ℕ, suc, ◌+◌, ◌%◌, ◌==◌, ◌≤◌, List, ◌∷◌, nat_lt}
use Rattle.std.proofs.lemmas.Bool.{le-leb}
use Rattle.std.proofs.Common.{Option, Some, None, true, false, if◌then◌else◌, refl, sym, ap}
use Rattle.std.proofs.Common.{◌∙◌, subst, arith, eq-eqb, eqb-true, ⊎_elim}
use Rattle.bw_lend.specs.Crowd.{Stage}
use Rattle.bw_lend.specs.Crowd.{Asleep}
use Rattle.bw_lend.specs.Crowd.{Errand, Peeking, Claiming, EnteringFor, Helping, Giving}
use Rattle.bw_lend.specs.Crowd.{GivingLast}
use Rattle.bw_lend.specs.Crowd.{Phase, Has, Leaves, Wakes, Away, Posted}
use Rattle.bw_lend.specs.Crowd.{Hint, Crowd, put, moved, hinted, is_posted_with}
use Rattle.bw_lend.specs.CrowdLaws.{Notes, WakesFirst, Holds, Comes}
use Rattle.bw_lend.proofs.CrowdInvariant.{NotEarly, Hinted, Stands}
use Rattle.bw_lend.proofs.CrowdInvariant.{OkErrand, Ok, Sound}
use Rattle.bw_lend.proofs.CrowdKept.{put_here, put_else}
use Rattle.bw_lend.proofs.CrowdKept.{quiet_sound, quiet_hinted}
use Rattle.std.proofs.lemmas.Bool.{eqb-false}
use Rattle.bw_lend.proofs.CrowdWalks.{by_test}

-- the phase is of a seat that has no ticket
abbrev pub IsOut : Phase → Type 0
IsOut (Has t w) = ⊥
IsOut (Leaves x js e) = Unit {0}
IsOut (Wakes js) = Unit {0}

pub out_early : (p : Phase) (x : ℕ) → IsOut p → NotEarly x p
out_early (Has t w) x h = absurd h
out_early (Leaves u js e) x h = tt
out_early (Wakes js) x h = tt

pub out_none : (p r : Phase) → IsOut p → (t : ℕ) (w : Stage) → p ≡ Has t w
    → (v : Stage) × (r ≡ Has t v)
out_none (Has u v) r h t w e = absurd h
out_none (Leaves u js k) r h t w e = absurd (cc e)
out_none (Wakes js) r h t w e = absurd (cc e)

-- A seat that has left goes on, and nothing else changes.
module _ (s : Crowd) (a : ℕ) (p r : Phase) where
  pub goes_sound : Sound s → s.phase a ≡ p → IsOut p → IsOut r
      → ((t i : ℕ) → Holds s.serving p t i → Holds s.serving r t i)
      → ((t i : ℕ) → s.place i ≡ Posted t → Stands s t i → Comes p t i → Comes r t i)
      → ((t i : ℕ) → s.phase i ≡ Has t Asleep → Notes p i → Notes r i)
      → ((t i : ℕ) → s.phase i ≡ Has t Asleep → WakesFirst p i → WakesFirst r i)
      → Ok (moved s a r) a r (s.place a) → Sound (moved s a r)
  goes_sound y was out out_r holding coming noting waking new =
      quiet_sound s (put s.phase a r) s.place a a p r (s.place a) (s.place a) y (record {
        was = was;
        is = put_here s.phase a r;
        rest = λ h ne. put_else s.phase a h r ne;
        had = refl;
        has = refl;
        others = λ h ne. refl;
        free = λ x i y o e h. h;
        holding = λ x i y o e h. holding x i h;
        coming = λ x i y o e q m st h. coming x i (e.3 ∙ q) st h;
        noting = λ x i y o e asleep h. noting x i (e.2 ∙ asleep) h;
        waking = λ x i y o e asleep h. waking x i (e.2 ∙ asleep) h;
        early = λ x h. out_early r x out_r;
      }) (λ t w le e. out_none p r out t w e) new
      (subst (λ k. Ok (moved s a r) a k (s.place a)) (sym (put_here s.phase a r)) new)

  -- a hinted seat still is, as seen after the step
  pub goes_hinted : s.phase a ≡ p → IsOut r → (x j : ℕ) → Hinted s x j → Hinted (moved s a r) x j
  goes_hinted was out_r x j h =
      quiet_hinted s (put s.phase a r) s.place a a p r (s.place a) (s.place a)
      (λ i y o. ⊥) (record {
        was = was;
        is = put_here s.phase a r;
        rest = λ h ne. put_else s.phase a h r ne;
        had = refl;
        has = refl;
        others = λ h ne. refl;
        free = λ x i y o e h. h;
        holding = λ x i y o e h. absurd e;
        coming = λ x i y o e q m st h. absurd e;
        noting = λ x i y o e asleep h. absurd e;
        waking = λ x i y o e asleep h. absurd e;
        early = λ x h. out_early r x out_r;
      }) x j h

module _ (s : Crowd) (a : ℕ) (y : Sound s) where
  pub at_errand : (x : ℕ) (js : List ℕ) (e : Errand) → s.phase a ≡ Leaves x js e
      → (s.place a ≡ Away) × OkErrand s a x e
  at_errand x js e was = subst (λ p. Ok s a p (s.place a)) was (y.each a)

  pub glance_peeking : (x : ℕ) (js : List ℕ) (k : ℕ) → s.phase a ≡ Leaves x js (Peeking (suc k))
      → Sound (moved s a (Leaves x js (Peeking k)))
  glance_peeking x js k was = let old = at_errand x js (Peeking (suc k)) was in
      let few = old.1.1 in
      goes_sound s a (Leaves x js (Peeking (suc k))) (Leaves x js (Peeking k)) y was tt tt
      (λ t i h. h) (λ t i q st h. h) (λ t i z h. h) (λ t i z h. h)
      (old.0, (old.1.0, (omega arith)))

  pub glance_giving : (x : ℕ) (js : List ℕ) (j k : ℕ)
      → s.phase a ≡ Leaves x js (Giving j (suc k)) → Sound (moved s a (Leaves x js (Giving j k)))
  glance_giving x js j k was = let old = at_errand x js (Giving j (suc k)) was in
      let few = old.1.1 in
      goes_sound s a (Leaves x js (Giving j (suc k))) (Leaves x js (Giving j k)) y was tt tt
      (λ t i h. h) (λ t i q st h. h) (λ t i z h. h) (λ t i z h. h)
      (old.0, (old.1.0, (omega arith)))

  -- no hint stands of a ticket that was not drawn
  none_stands : (x t i : ℕ) → nat_lt x s.next ≡ false → x ≡ t → Stands s t i → ⊥
  none_stands x t i late same st = let drawn = (y.hints (t % s.words) t i st).0 in
      let lt : suc x ≤ s.next = omega arith in cc (sym late ∙ le-leb (suc x) s.next lt)

  pub behind_peeking : (x : ℕ) (js : List ℕ) (k : ℕ) → s.phase a ≡ Leaves x js (Peeking (suc k))
      → Sound (moved s a (if nat_lt x s.next then Leaves x js (Peeking k) else Wakes js))
  behind_peeking x js k was = by_test (λ p. Sound (moved s a p)) (nat_lt x s.next)
      (Leaves x js (Peeking k)) (Wakes js) (λ is. glance_peeking x js k was)
      (λ late. goes_sound s a (Leaves x js (Peeking (suc k))) (Wakes js) y was tt tt
      (λ t i h. h) (λ t i q st h. absurd (none_stands x t i late h st)) (λ t i z h. h)
      (λ t i z h. absurd h) (at_errand x js (Peeking (suc k)) was).0)

  pub behind_giving : (x : ℕ) (js : List ℕ) (j k : ℕ)
      → s.phase a ≡ Leaves x js (Giving j (suc k))
      → Sound (moved s a (Leaves x js (if nat_lt (x + 1) s.next then Giving j k else GivingLast j)))
  behind_giving x js j k was = by_test (λ e. Sound (moved s a (Leaves x js e)))
      (nat_lt (x + 1) s.next) (Giving j k) (GivingLast j) (λ is. glance_giving x js j k was)
      (λ late. let old = at_errand x js (Giving j (suc k)) was in
      goes_sound s a (Leaves x js (Giving j (suc k))) (Leaves x js (GivingLast j)) y was tt tt
      (λ t i h. h) (λ t i q st h. absurd (none_stands (x + 1) t i late h st)) (λ t i z h. h)
      (λ t i z h. h) (old.0, old.1.0))

  pub look_for : (x : ℕ) (js : List ℕ) (j : ℕ) → s.phase a ≡ Leaves x js (EnteringFor j)
      → Sound (moved s a (Leaves x js (if x == s.serving then Helping j else EnteringFor j)))
  look_for x js j was = let old = at_errand x js (EnteringFor j) was in
      by_test (λ e. Sound (moved s a (Leaves x js e))) (x == s.serving) (Helping j) (EnteringFor j)
      (λ is. goes_sound s a (Leaves x js (EnteringFor j)) (Leaves x js (Helping j)) y was tt tt
      (λ t i h. h) (λ t i q st h. absurd h) (λ t i z h. h) (λ t i z h. h) old)
      (λ is. goes_sound s a (Leaves x js (EnteringFor j)) (Leaves x js (EnteringFor j)) y was tt tt
      (λ t i h. h) (λ t i q st h. h) (λ t i z h. h) (λ t i z h. h) old)

  pub peek : (x : ℕ) (js : List ℕ) (n : ℕ) → s.phase a ≡ Leaves x js (Peeking n) → (o : Option Hint)
      → s.hint (x % s.words) ≡ o → Sound (moved s a (hinted x js o))
  peek x js n was None e = let old = at_errand x js (Peeking n) was in
      goes_sound s a (Leaves x js (Peeking n)) (Wakes js) y was tt tt
      (λ t i h. h)
      (λ t i q (st : Stands s t i) h.
      absurd (none_here t i h (sym e ∙ ap (λ k. s.hint (k % s.words)) h ∙ st)))
      (λ t i z h. h) (λ t i z h. absurd h) old.0
    where
      none_here : (t i : ℕ) → x ≡ t
          → ◌≡◌ {A = Option Hint} None (Some (record { ticket = t; seat = i })) → ⊥
      none_here t i h m = cc m
  peek x js n was (Some h) e = by_test (λ r. Sound (moved s a r)) (h.ticket == x)
      (Leaves x js (Claiming h.seat)) (Wakes js)
      (λ is. let same : h.ticket ≡ x = eqb-true h.ticket x is in
      goes_sound s a (Leaves x js (Peeking n)) (Leaves x js (Claiming h.seat)) y was tt tt
      (λ t i k. absurd k)
      (λ t i q (st : Stands s t i) m. (m, names t i m st))
      (λ t i z k. k) (λ t i z k. absurd k) (
        (at_errand x js (Peeking n) was).0,
        (
          (at_errand x js (Peeking n) was).1.0,
          goes_hinted s a (Leaves x js (Peeking n)) (Leaves x js (Claiming h.seat)) was tt x h.seat
              (subst (λ k. Hinted s k h.seat) same (y.hints (x % s.words) h.ticket h.seat e)),
        ),
      ))
      (λ is. goes_sound s a (Leaves x js (Peeking n)) (Wakes js) y was tt tt
      (λ t i k. k)
      (λ t i q (st : Stands s t i) m. absurd (eqb-false h.ticket x is (of_ticket t i m st)))
      (λ t i z k. k) (λ t i z k. absurd k) (at_errand x js (Peeking n) was).0)
    where
      both : (t i : ℕ) → x ≡ t → Stands s t i
          → Some h ≡ Some (record { ticket = t; seat = i })
      both t i m st = sym e ∙ ap (λ k. s.hint (k % s.words)) m ∙ st

      names : (t i : ℕ) → x ≡ t → Stands s t i → h.seat ≡ i
      names t i m st = let two = both t i m st in
          let k : h ≡ (record { ticket = t; seat = i }) = cc two in ap (λ (z : Hint). z.seat) k

      of_ticket : (t i : ℕ) → x ≡ t → Stands s t i → h.ticket ≡ x
      of_ticket t i m st = let two = both t i m st in
          let k : h ≡ (record { ticket = t; seat = i }) = cc two in
          ap (λ (z : Hint). z.ticket) k ∙ sym m

  pub claim_lost : (x : ℕ) (js : List ℕ) (j : ℕ) → s.phase a ≡ Leaves x js (Claiming j)
      → is_posted_with x (s.place j) ≡ false → Sound (moved s a (Wakes js))
  claim_lost x js j was no_more = goes_sound s a (Leaves x js (Claiming j)) (Wakes js) y was tt tt
      (λ t i h. h) (λ t i q st h. absurd (not_lost t i q h))
      (λ t i z h. h) (λ t i z h. absurd h) (at_errand x js (Claiming j) was).0
    where
      not_lost : (t i : ℕ) → s.place i ≡ Posted t → (x ≡ t) × (j ≡ i) → ⊥
      not_lost t i q h = let e : false ≡ true =
          sym no_more ∙ ap (λ k. is_posted_with x (s.place k)) h.1
          ∙ ap (is_posted_with x) q ∙ eq-eqb t x (sym h.0) in cc e

  pub wake_next : (j : ℕ) (js : List ℕ) → s.phase a ≡ Wakes (j ∷ js)
      → ((t : ℕ) → s.phase j ≡ Has t Asleep → ⊥) → Sound (moved s a (Wakes js))
  wake_next j js was up = goes_sound s a (Wakes (j ∷ js)) (Wakes js) y was tt tt
      (λ t i h. h) (λ t i q st h. h)
      (λ t i z h. ⊎_elim (λ (e : j ≡ i). absurd (up t (ap s.phase e ∙ z))) (λ k. k) h)
      (λ t i z (h : j ≡ i). absurd (up t (ap s.phase h ∙ z)))
      (subst (λ p. Ok s a p (s.place a)) was (y.each a))
