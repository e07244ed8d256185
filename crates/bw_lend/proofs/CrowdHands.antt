-- The invariant is kept where a seat is claimed, and where it is given back.
use Rattle.std.proofs.Common.{◌≡◌, ◌≢◌, ℕ, ◌+◌, ◌≤◌, List, ◌∷◌}
use Rattle.std.proofs.Common.{true, refl, sym, ap}
use Rattle.std.proofs.Common.{◌∙◌, subst, arith, eqb-true, inl, inr}
use Rattle.std.proofs.lemmas.Bool.{and_parts}
use Rattle.std.proofs.Common.{◌&&◌, ◌||◌, Bool, ⊎_elim, [], ◌==◌, eq-eqb, ◌⊎◌, false}
use Rattle.bw_lend.specs.Crowd.{is_in, are_in}
use Rattle.bw_lend.specs.Crowd.{Stage, Drawn, Hinting, Reading, Looking, Retracting, Parking}
use Rattle.bw_lend.specs.Crowd.{ParkingHeld, Asleep, Fetching, Entering, Inside}
use Rattle.bw_lend.specs.Crowd.{Errand, Peeking, Claiming, Giving, GivingLast, Returning}
use Rattle.bw_lend.specs.Crowd.{Phase, Has, Leaves, Wakes, Place, Away, Posted, Claimed, Done, Back}
use Rattle.bw_lend.specs.Crowd.{Crowd, put, placed, is_posted_with}
use Rattle.bw_lend.specs.CrowdLaws.{IsIn, Notes, WakesFirst, Holds, Comes}
use Rattle.bw_lend.proofs.CrowdInvariant.{NotEarly, WaitsAt, IsLent}
use Rattle.bw_lend.proofs.CrowdInvariant.{IsAwaited, IfAsleep, OkErrand, Ok, Sound}
use Rattle.bw_lend.proofs.CrowdKept.{put_here, put_else, quiet_sound}
use Rattle.bw_lend.proofs.CrowdErrands.{IsOut, out_early, out_none, at_errand}

-- A seat a that has left changes the word of another's place from q to c.
module _ (s : Crowd) (a j : ℕ) (p r : Phase) (q c : Place) where
  hand_sound : Sound s → s.phase a ≡ p → s.place j ≡ q → j ≢ a → IsOut p → IsOut r
      → ((x i : ℕ) → i ≢ a → q ≡ Claimed x i → ⊥)
      → ((t i : ℕ) → i ≢ j → Holds s.serving p t i → Holds s.serving r t i)
      → ((t i : ℕ) → i ≢ j → Comes p t i → Comes r t i)
      → ((t i : ℕ) → Notes p i → Notes r i)
      → ((t i : ℕ) → WakesFirst p i → WakesFirst r i)
      → Ok (placed s a r j c) a r (s.place a)
      → Ok (placed s a r j c) j (s.phase j) c
      → Sound (placed s a r j c)
  hand_sound y was had ne out out_r free holding coming noting waking here there =
      quiet_sound s (put s.phase a r) (put s.place j c) a j p r q c y (record {
        was = was;
        is = put_here s.phase a r;
        rest = λ h n. put_else s.phase a h r n;
        had = had;
        has = put_here s.place j c;
        others = λ h n. put_else s.place j h c n;
        free = λ x i y o e h. absurd (free x i e.0 h);
        holding = λ x i y o e h. holding x i e.1 h;
        coming = λ x i y o e m v st h. coming x i e.1 h;
        noting = λ x i y o e asleep h. noting x i h;
        waking = λ x i y o e asleep h. waking x i h;
        early = λ x h. out_early r x out_r;
      }) (λ t w le e. out_none p r out t w e)
      (subst (λ o. Ok (placed s a r j c) a r o)
      (sym (put_else s.place j a c (λ e. ne (sym e)))) here)
      (subst (λ k. Ok (placed s a r j c) j k c) (sym (put_else s.phase a j r ne)) there)

pub is_with : (x : ℕ) (q : Place) → is_posted_with x q ≡ true → q ≡ Posted x
is_with x Away e = absurd (cc e)
is_with x (Posted t) e = ap Posted (eqb-true t x e)
is_with x (Claimed t h) e = absurd (cc e)
is_with x (Done t h) e = absurd (cc e)
is_with x (Back t h) e = absurd (cc e)

in_of : (i : ℕ) (ks : List ℕ) → is_in i ks ≡ true → IsIn i ks
in_of i [] e = absurd (cc e)
in_of i (j ∷ ks) e = first (j == i) refl (in_of i ks)
  where
    first : (b : Bool) → (j == i) ≡ b → (is_in i ks ≡ true → IsIn i ks) → (j ≡ i) ⊎ IsIn i ks
    first true h rest = inl (eqb-true j i h)
    first false h rest = inr (rest (sym (ap (λ c. c || is_in i ks) h) ∙ e))

all_in : (js ks : List ℕ) → are_in js ks ≡ true → (i : ℕ) → IsIn i js → IsIn i ks
all_in [] ks e i h = absurd h
all_in (j ∷ js) ks e i h = let d = and_parts (is_in j ks) (are_in js ks) e in
    ⊎_elim (λ (same : j ≡ i). subst (λ k. IsIn k ks) same (in_of j ks d.0))
    (λ r. all_in js ks d.1 i r) h

to_in : (i : ℕ) (ks : List ℕ) → IsIn i ks → is_in i ks ≡ true
to_in i [] h = absurd h
to_in i (j ∷ ks) h = ⊎_elim (λ (e : j ≡ i). ap (λ c. c || is_in i ks) (eq-eqb j i e))
    (λ r. second (j == i) (to_in i ks r)) h
  where
    second : (b : Bool) → is_in i ks ≡ true → (b || is_in i ks) ≡ true
    second true e = refl
    second false e = e

-- a list has all of a list that it has
pub are_all : (js ks : List ℕ) → ((i : ℕ) → IsIn i js → IsIn i ks) → are_in js ks ≡ true
are_all [] ks h = refl
are_all (j ∷ js) ks h = ap (λ c. c && are_in js ks) (to_in j ks (h j (inl refl)))
    ∙ are_all js ks (λ i r. h i (inr r))

module _ (s : Crowd) (a : ℕ) (y : Sound s) where
  -- the seat of this number, and the word of its place
  at_word : (j : ℕ) (q : Place) → s.place j ≡ q → Ok s j (s.phase j) q
  at_word j q had = subst (λ o. Ok s j (s.phase j) o) had (y.each j)

  other_place : (j : ℕ) (q : Place) → s.place a ≡ Away → s.place j ≡ q → (Away ≡ q → ⊥) → j ≢ a
  other_place j q home had ne e = ne (sym home ∙ ap s.place (sym e) ∙ had)

  posted_lent : (j t x : ℕ) (w : Stage) → t ≡ x → NotEarly x (Has t w) → WaitsAt s j t w → IsLent w
  posted_lent j t x Drawn e n h = absurd h
  posted_lent j t x Hinting e n h = absurd (n e)
  posted_lent j t x Reading e n h = tt
  posted_lent j t x Looking e n h = tt
  posted_lent j t x Retracting e n h = tt
  posted_lent j t x Parking e n h = tt
  posted_lent j t x ParkingHeld e n h = tt
  posted_lent j t x Asleep e n h = tt
  posted_lent j t x Fetching e n h = absurd h
  posted_lent j t x Entering e n h = absurd h
  posted_lent j t x Inside e n h = absurd h

  -- the claimed seat, for an errand at which it is held
  claimed : (e : ℕ → Errand) (x : ℕ) (js : List ℕ) (j : ℕ) (p : Phase)
      → ((v t i : ℕ) → x ≡ t → j ≡ i → t ≡ v → Holds v (Leaves x js (e j)) t i)
      → x ≤ s.serving → NotEarly x p → Ok s j p (Posted x)
      → Ok (placed s a (Leaves x js (e j)) j (Claimed x a)) j p (Claimed x a)
  claimed e x js j (Has t w) holds le early ok = (
    ok.0,
    ok.1,
    ok.2,
    (
      ok.3.0,
      posted_lent j t x w (sym ok.3.0) early ok.3.2,
      subst (λ k. Holds s.serving k t j) (sym (put_here s.phase a (Leaves x js (e j))))
          (holds s.serving t j ok.3.0 refl (at_serving t ok.3.0 ok.3.1)),
    ),
  )
    where
      at_serving : (t : ℕ) → x ≡ t → s.serving ≤ t → t ≡ s.serving
      at_serving t is ge = omega arith
  claimed e x js j (Leaves u ks k) holds le early ok = absurd (cc ok.0)
  claimed e x js j (Wakes ks) holds le early ok = absurd (cc ok)

  pub claim_won : (e : ℕ → Errand) (x : ℕ) (js : List ℕ) (j : ℕ)
      → s.phase a ≡ Leaves x js (Claiming j)
      → ((v t i : ℕ) → x ≡ t → j ≡ i → t ≡ v → Holds v (Leaves x js (e j)) t i)
      → ((z : Crowd) → z.place j ≡ Claimed x a → OkErrand z a x (e j))
      → is_posted_with x (s.place j) ≡ true
      → Sound (placed s a (Leaves x js (e j)) j (Claimed x a))
  claim_won e x js j was holds ok_e posted =
      let old = at_errand s a y x js (Claiming j) was in
      let had : s.place j ≡ Posted x = is_with x (s.place j) posted in
      hand_sound s a j (Leaves x js (Claiming j)) (Leaves x js (e j)) (Posted x) (Claimed x a)
      y was had
      (other_place j (Posted x) old.0 had (λ m. cc m)) tt tt (λ u i n m. cc m)
      (λ t i n h. absurd h) (λ t i n h. absurd (n (sym h.1))) (λ t i h. h) (λ t i h. absurd h) (
        old.0,
        ok_e (placed s a (Leaves x js (e j)) j (Claimed x a))
            (put_here s.place j (Claimed x a)),
      )
      (claimed e x js j (s.phase j) holds old.1.0 old.1.1.2 (at_word j (Posted x) had))

  lent_awaited : (w : Stage) → IsLent w → IsAwaited w
  lent_awaited Drawn h = h
  lent_awaited Hinting h = h
  lent_awaited Reading h = tt
  lent_awaited Looking h = tt
  lent_awaited Retracting h = tt
  lent_awaited Parking h = tt
  lent_awaited ParkingHeld h = tt
  lent_awaited Asleep h = tt
  lent_awaited Fetching h = absurd h
  lent_awaited Entering h = h
  lent_awaited Inside h = h

  if_asleep : (w : Stage) (A : Type 0) → A → IfAsleep w A
  if_asleep Drawn A h = tt
  if_asleep Hinting A h = tt
  if_asleep Reading A h = tt
  if_asleep Looking A h = tt
  if_asleep Retracting A h = tt
  if_asleep Parking A h = tt
  if_asleep ParkingHeld A h = tt
  if_asleep Asleep A h = h
  if_asleep Fetching A h = tt
  if_asleep Entering A h = tt
  if_asleep Inside A h = tt

  given : (x : ℕ) (js ks : List ℕ) (j n : ℕ) (p : Phase) → s.phase a ≡ Leaves x js (Giving j n)
      → IsIn j ks → Ok s j p (Claimed x a)
      → Ok (placed s a (Leaves (x + 1) ks (Peeking 0)) j (Done x a)) j p (Done x a)
  given x js ks j n (Has t w) was has ok =
      let held = subst (λ k. Holds s.serving k t j) was ok.3.2 in (
        ok.0,
        ok.1,
        ok.2,
        (
          ok.3.0,
          held.2,
          lent_awaited w ok.3.1,
          if_asleep w (Notes (put s.phase a (Leaves (x + 1) ks (Peeking 0)) a) j)
              (subst (λ k. Notes k j) (sym (put_here s.phase a (Leaves (x + 1) ks (Peeking 0))))
              has),
        ),
      )
  given x js ks j n (Leaves u ls k) was has ok = absurd (cc ok.0)
  given x js ks j n (Wakes ls) was has ok = absurd (cc ok)

  served_below : (x : ℕ) (js : List ℕ) (j n : ℕ) (p : Phase)
      → s.phase a ≡ Leaves x js (Giving j n)
      → Ok s j p (Claimed x a) → x + 1 ≤ s.serving
  served_below x js j n (Has t w) was ok =
      let held = subst (λ k. Holds s.serving k t j) was ok.3.2 in
      let is = held.0 in let lt = held.2 in omega arith
  served_below x js j n (Leaves u ks k) was ok = absurd (cc ok.0)
  served_below x js j n (Wakes ks) was ok = absurd (cc ok)

  pub give : (x : ℕ) (js ks : List ℕ) (j n : ℕ) → s.phase a ≡ Leaves x js (Giving j n)
      → are_in (j ∷ js) ks ≡ true
      → Sound (placed s a (Leaves (x + 1) ks (Peeking 0)) j (Done x a))
  give x js ks j n was all = let old = at_errand s a y x js (Giving j n) was in
      let word = at_word j (Claimed x a) old.1.0 in
      hand_sound s a j (Leaves x js (Giving j n)) (Leaves (x + 1) ks (Peeking 0))
      (Claimed x a) (Done x a) y was old.1.0
      (other_place j (Claimed x a) old.0 old.1.0 (λ m. cc m)) tt tt
      (λ u i ne m. ne (let k : a ≡ i = cc m in sym k))
      (λ t i ne h. absurd (ne (sym h.1))) (λ t i ne h. h)
      (λ t i h. all_in (j ∷ js) ks all i (inr h)) (λ t i h. absurd h)
      (old.0, (served_below x js j n (s.phase j) was word, omega arith))
      (given x js ks j n (s.phase j) was (all_in (j ∷ js) ks all j (inl refl)) word)

  given_last : (x : ℕ) (js ks : List ℕ) (j : ℕ) (p : Phase)
      → s.phase a ≡ Leaves x js (GivingLast j) → IsIn j ks → Ok s j p (Claimed x a)
      → Ok (placed s a (Wakes ks) j (Done x a)) j p (Done x a)
  given_last x js ks j (Has t w) was has ok =
      let held = subst (λ k. Holds s.serving k t j) was ok.3.2 in (
        ok.0,
        ok.1,
        ok.2,
        (
          ok.3.0,
          held.2,
          lent_awaited w ok.3.1,
          if_asleep w (Notes (put s.phase a (Wakes ks) a) j)
              (subst (λ k. Notes k j) (sym (put_here s.phase a (Wakes ks))) has),
        ),
      )
  given_last x js ks j (Leaves u ls k) was has ok = absurd (cc ok.0)
  given_last x js ks j (Wakes ls) was has ok = absurd (cc ok)

  pub give_last : (x : ℕ) (js ks : List ℕ) (j : ℕ) → s.phase a ≡ Leaves x js (GivingLast j)
      → are_in (j ∷ js) ks ≡ true → Sound (placed s a (Wakes ks) j (Done x a))
  give_last x js ks j was all = let old = at_errand s a y x js (GivingLast j) was in
      hand_sound s a j (Leaves x js (GivingLast j)) (Wakes ks)
      (Claimed x a) (Done x a) y was old.1
      (other_place j (Claimed x a) old.0 old.1 (λ m. cc m)) tt tt
      (λ u i ne m. ne (let k : a ≡ i = cc m in sym k))
      (λ t i ne h. absurd (ne (sym h.1))) (λ t i ne h. absurd h)
      (λ t i h. all_in (j ∷ js) ks all i (inr h)) (λ t i h. absurd h)
      old.0
      (given_last x js ks j (s.phase j) was (all_in (j ∷ js) ks all j (inl refl))
      (at_word j (Claimed x a) old.1))

  returned : (x : ℕ) (js ks : List ℕ) (j : ℕ) (p : Phase) → s.phase a ≡ Leaves x js (Returning j)
      → Ok s j p (Claimed x a)
      → Ok (placed s a (Wakes (j ∷ ks)) j (Back x a)) j p (Back x a)
  returned x js ks j (Has t w) was ok =
      let held = subst (λ k. Holds s.serving k t j) was ok.3.2 in (
        ok.0,
        ok.1,
        ok.2,
        (
          ok.3.0,
          held.2,
          lent_awaited w ok.3.1,
          if_asleep w (WakesFirst (put s.phase a (Wakes (j ∷ ks)) a) j)
              (subst (λ k. WakesFirst k j) (sym (put_here s.phase a (Wakes (j ∷ ks)))) refl),
        ),
      )
  returned x js ks j (Leaves u ls k) was ok = absurd (cc ok.0)
  returned x js ks j (Wakes ls) was ok = absurd (cc ok)

  pub return_back : (x : ℕ) (js ks : List ℕ) (j : ℕ) → s.phase a ≡ Leaves x js (Returning j)
      → are_in js ks ≡ true
      → Sound (placed s a (Wakes (j ∷ ks)) j (Back x a))
  return_back x js ks j was all = let old = at_errand s a y x js (Returning j) was in
      hand_sound s a j (Leaves x js (Returning j)) (Wakes (j ∷ ks))
      (Claimed x a) (Back x a) y was old.1
      (other_place j (Claimed x a) old.0 old.1 (λ m. cc m)) tt tt
      (λ u i ne m. ne (let k : a ≡ i = cc m in sym k))
      (λ t i n h. absurd (n (sym h.1))) (λ t i n h. absurd h)
      (λ t i h. inr (all_in js ks all i h))
      (λ t i h. absurd h)
      old.0 (returned x js ks j (s.phase j) was (at_word j (Claimed x a) old.1))
