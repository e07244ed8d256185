-- What a step has to keep of the seats beside it, for the invariant to be kept.
use Rattle.std.proofs.Common.{◌≡◌, ◌≢◌, ℕ, ◌==◌, ◌<◌, ◌≤◌, List}
use Rattle.std.proofs.Common.{Bool, true, false, if◌then◌else◌, refl, sym, ap}
use Rattle.std.proofs.Common.{◌∙◌, subst, arith, eq-eqb, eqb-true}
use mathlib.Core.Logic.{dite}
use native.Mathlib.Decide.{ℕ_discrete}
use Rattle.bw_lend.specs.Crowd.{Stage, Drawn, Hinting, Reading, Looking, Retracting, Parking}
use Rattle.bw_lend.specs.Crowd.{ParkingHeld, Asleep, Fetching, Entering, Inside}
use Rattle.bw_lend.specs.Crowd.{Errand, Peeking, Claiming, EnteringFor, Helping, Giving}
use Rattle.bw_lend.specs.Crowd.{GivingLast, Returning}
use Rattle.bw_lend.specs.Crowd.{Phase, Has, Leaves, Wakes, Place, Away, Posted, Claimed, Done, Back}
use Rattle.bw_lend.specs.Crowd.{Crowd, put}
use Rattle.bw_lend.specs.CrowdLaws.{Notes, WakesFirst, Holds, Comes, SomeoneComes}
use Rattle.bw_lend.proofs.CrowdInvariant.{NotEarly, Hinted, Stands, HomeAt, WaitsAt}
use Rattle.bw_lend.proofs.CrowdInvariant.{IfAsleep, OkPlace, OkErrand, Ok, Sound}

module _ {A : Type 0} where
  pub put_here : (f : ℕ → A) (i : ℕ) (x : A) → put f i x i ≡ x
  put_here f i x = ap (λ (b : Bool). if b then x else f i) (eq-eqb i i refl)

  pub put_at : (f : ℕ → A) (i j : ℕ) (x : A) → j ≡ i → put f i x j ≡ x
  put_at f i j x e = ap (λ (b : Bool). if b then x else f j) (eq-eqb j i e)

  if_not : (b : Bool) (x y : A) → (b ≡ true → ⊥) → (if b then x else y) ≡ y
  if_not true x y n = absurd (n refl)
  if_not false x y n = refl

  pub put_else : (f : ℕ → A) (i j : ℕ) (x : A) → j ≢ i → put f i x j ≡ f j
  put_else f i j x ne = if_not (j == i) x (f j) (λ e. ne (eqb-true j i e))

-- what the seat i rests on in a step from s to z, with its phase p and the word q of its place
pub record Steps (s z : Crowd) (i : ℕ) (p : Phase) (q : Place) : Type 0 where
  pub more : s.next ≤ z.next
  pub seated : s.seats ≤ z.seats
  pub rises : s.serving ≤ z.serving
  pub owns : (t : ℕ) → t < s.next → z.owner t ≡ s.owner t
  pub serves : (t : ℕ) → t < s.next → s.owner t ≡ i
      → (s.serving ≤ t → z.serving ≤ t) × (t ≡ s.serving → t ≡ z.serving)
      × (t < s.serving → t < z.serving)
  pub stands : (t : ℕ) → t < s.next → s.owner t ≡ i → s.serving ≤ t → Stands s t i → Stands z t i
  pub comes : (t : ℕ) → t < s.next → s.owner t ≡ i → q ≡ Posted t → t ≡ z.serving → Stands s t i
      → (t ≡ s.serving → SomeoneComes s t i) → SomeoneComes z t i
  pub holds : (t h : ℕ) → t < s.next → s.owner t ≡ i → Holds s.serving (s.phase h) t i
      → Holds z.serving (z.phase h) t i
  pub notes : (t h : ℕ) → p ≡ Has t Asleep → Notes (s.phase h) i → Notes (z.phase h) i
  pub first : (t h : ℕ) → p ≡ Has t Asleep → WakesFirst (s.phase h) i → WakesFirst (z.phase h) i
  pub keeps : (x j : ℕ) → s.place j ≡ Claimed x i → z.place j ≡ Claimed x i
  pub hinted : (x j : ℕ) → Hinted s x j → Hinted z x j

module _ (s z : Crowd) (i : ℕ) where
  waits_kept : (t : ℕ) (w : Stage) (u : ℕ) → Steps s z i (Has t w) (Posted u) → u ≡ t → t < s.next
      → s.owner t ≡ i → s.serving ≤ t → WaitsAt s i t w → WaitsAt z i t w
  waits_kept t Drawn u st e lt o le h = h
  waits_kept t Hinting u st e lt o le h = tt
  waits_kept t Reading u st e lt o le h = st.stands t lt o le h
  waits_kept t Looking u st e lt o le h = st.stands t lt o le h
  waits_kept t Retracting u st e lt o le h =
      (st.stands t lt o le h.0, (st.serves t lt o).1 h.1)
  waits_kept t Parking u st e lt o le h =
      (st.stands t lt o le h.0, λ v. st.comes t lt o (ap Posted e) v h.0 h.1)
  waits_kept t ParkingHeld u st e lt o le h = h
  waits_kept t Asleep u st e lt o le h =
      (st.stands t lt o le h.0, λ v. st.comes t lt o (ap Posted e) v h.0 h.1)
  waits_kept t Fetching u st e lt o le h = h
  waits_kept t Entering u st e lt o le h = h
  waits_kept t Inside u st e lt o le h = h

  home_kept : (t : ℕ) (w : Stage) → Steps s z i (Has t w) Away → t < s.next
      → s.owner t ≡ i → HomeAt w s.serving t → HomeAt w z.serving t
  home_kept t Drawn st lt o h = (st.serves t lt o).0 h
  home_kept t Hinting st lt o h = h
  home_kept t Reading st lt o h = h
  home_kept t Looking st lt o h = h
  home_kept t Retracting st lt o h = h
  home_kept t Parking st lt o h = h
  home_kept t ParkingHeld st lt o h = h
  home_kept t Asleep st lt o h = h
  home_kept t Fetching st lt o h = h
  home_kept t Entering st lt o h = (st.serves t lt o).1 h
  home_kept t Inside st lt o h = (st.serves t lt o).1 h

  asleep_kept : (t : ℕ) (w : Stage) (A B : Type 0) → (w ≡ Asleep → A → B) → IfAsleep w A
      → IfAsleep w B
  asleep_kept t Drawn A B f h = tt
  asleep_kept t Hinting A B f h = tt
  asleep_kept t Reading A B f h = tt
  asleep_kept t Looking A B f h = tt
  asleep_kept t Retracting A B f h = tt
  asleep_kept t Parking A B f h = tt
  asleep_kept t ParkingHeld A B f h = tt
  asleep_kept t Asleep A B f h = f refl h
  asleep_kept t Fetching A B f h = tt
  asleep_kept t Entering A B f h = tt
  asleep_kept t Inside A B f h = tt

  place_kept : (t : ℕ) (w : Stage) (q : Place) → Steps s z i (Has t w) q → t < s.next
      → s.owner t ≡ i → OkPlace s i t w q → OkPlace z i t w q
  place_kept t w Away st lt o h = home_kept t w st lt o h
  place_kept t w (Posted u) st lt o h =
      (h.0, (st.serves t lt o).0 h.1, waits_kept t w u st h.0 lt o h.1 h.2)
  place_kept t w (Claimed u b) st lt o h = (h.0, h.1, st.holds t b lt o h.2)
  place_kept t w (Done u b) st lt o h = (
    h.0,
    (st.serves t lt o).2 h.1,
    h.2,
    asleep_kept t w (Notes (s.phase b) i) (Notes (z.phase b) i)
        (λ e. st.notes t b (ap (Has t) e)) h.3,
  )
  place_kept t w (Back u b) st lt o h = (
    h.0,
    (st.serves t lt o).1 h.1,
    h.2,
    asleep_kept t w (WakesFirst (s.phase b) i) (WakesFirst (z.phase b) i)
        (λ e. st.first t b (ap (Has t) e)) h.3,
  )

  errand_kept : (x : ℕ) (js : List ℕ) (e : Errand) (q : Place) → Steps s z i (Leaves x js e) q
      → OkErrand s i x e → OkErrand z i x e
  errand_kept x js (Peeking k) q st h =
      ((let r = st.rises in let le = h.0 in omega arith), h.1)
  errand_kept x js (Claiming j) q st h =
      ((let r = st.rises in let le = h.0 in omega arith), st.hinted x j h.1)
  errand_kept x js (EnteringFor j) q st h = st.keeps x j h
  errand_kept x js (Helping j) q st h = st.keeps x j h
  errand_kept x js (Giving j k) q st h = (st.keeps x j h.0, h.1)
  errand_kept x js (GivingLast j) q st h = st.keeps x j h
  errand_kept x js (Returning j) q st h = st.keeps x j h

  pub ok_kept : (p : Phase) (q : Place) → Steps s z i p q → Ok s i p q → Ok z i p q
  ok_kept (Has t w) q st h = (
    (let more = st.more in let lt = h.0 in omega arith),
    st.owns t h.0 ∙ h.1,
    (let more = st.seated in let lt = h.2 in omega arith),
    place_kept t w q st h.0 h.1 h.3,
  )
  ok_kept (Leaves x js e) q st h = (h.0, errand_kept x js e q st h.1)
  ok_kept (Wakes js) q st h = h

-- what holds of the phases after a step of the seat a from the phase p to r
module _ (f g : ℕ → Phase) (a : ℕ) (p r : Phase) where
  pub carry : f a ≡ p → g a ≡ r → ((h : ℕ) → h ≢ a → g h ≡ f h) → (R : Phase → Type 0)
      → (R p → R r) → (h : ℕ) → R (f h) → R (g h)
  carry was is rest R to h has = dite (ℕ_discrete h a)
      (λ e. subst R (sym (ap g e ∙ is)) (to (subst R (ap f e ∙ was) has)))
      (λ ne. subst R (sym (rest h ne)) has)

-- A step of the seat a from the phase p to r. The word q of the place b becomes c, and nothing
-- else. E says for which seats it is shown.
pub record Quiet (s : Crowd) (f : ℕ → Phase) (g : ℕ → Place) (a b : ℕ) (p r : Phase) (q c : Place)
    (E : ℕ → Phase → Place → Type 0) : Type 0 where
  pub was : s.phase a ≡ p
  pub is : f a ≡ r
  pub rest : (h : ℕ) → h ≢ a → f h ≡ s.phase h
  pub had : s.place b ≡ q
  pub has : g b ≡ c
  pub others : (h : ℕ) → h ≢ b → g h ≡ s.place h
  pub free : (x i : ℕ) (y : Phase) (o : Place) → E i y o → q ≡ Claimed x i → c ≡ Claimed x i
  pub holding : (t i : ℕ) (y : Phase) (o : Place) → E i y o → Holds s.serving p t i
      → Holds s.serving r t i
  pub coming : (t i : ℕ) (y : Phase) (o : Place) → E i y o → o ≡ Posted t → t ≡ s.serving
      → Stands s t i → Comes p t i → Comes r t i
  pub noting : (t i : ℕ) (y : Phase) (o : Place) → E i y o → y ≡ Has t Asleep → Notes p i
      → Notes r i
  pub waking : (t i : ℕ) (y : Phase) (o : Place) → E i y o → y ≡ Has t Asleep → WakesFirst p i
      → WakesFirst r i
  pub early : (x : ℕ) → NotEarly x p → NotEarly x r

-- the seat i is neither of the two
abbrev pub Aside : Crowd → ℕ → ℕ → ℕ → Phase → Place → Type 0
Aside s a b i y o = (i ≢ a) × (i ≢ b) × (s.phase i ≡ y) × (s.place i ≡ o)

module _ (s : Crowd) (f : ℕ → Phase) (g : ℕ → Place) (a b : ℕ) (p r : Phase) (q c : Place) where
  pub quiet_steps : (E : ℕ → Phase → Place → Type 0) → Quiet s f g a b p r q c E
      → (i : ℕ) (y : Phase) (o : Place) → E i y o
      → Steps s (record s { phase = f; place = g }) i y o
  quiet_steps E z i y o there = record {
    more = omega arith;
    seated = omega arith;
    rises = omega arith;
    owns = λ t lt. refl;
    serves = λ t lt own. (λ h. h, λ h. h, λ h. h);
    stands = λ t lt own le h. h;
    comes = λ t lt own is_posted served st some. let w = some served in (
      w.0,
      carry s.phase f a p r z.was z.is z.rest (λ x. Comes x t i)
          (z.coming t i y o there is_posted served st) w.0 w.1,
    );
    holds = λ t h lt own. carry s.phase f a p r z.was z.is z.rest (λ x. Holds s.serving x t i)
        (z.holding t i y o there) h;
    notes = λ t h asleep. carry s.phase f a p r z.was z.is z.rest (λ x. Notes x i)
        (z.noting t i y o there asleep) h;
    first = λ t h asleep. carry s.phase f a p r z.was z.is z.rest (λ x. WakesFirst x i)
        (z.waking t i y o there asleep) h;
    keeps = λ x j e. dite (ℕ_discrete j b)
        (λ same. ap g same ∙ z.has
        ∙ z.free x i y o there (sym z.had ∙ ap s.place (sym same) ∙ e))
        (λ ne. z.others j ne ∙ e);
    hinted = λ x j h. (
      h.0,
      h.1,
      carry s.phase f a p r z.was z.is z.rest (λ y. NotEarly x y)
          (z.early x) j h.2,
    );
  }

  pub quiet_hinted : (E : ℕ → Phase → Place → Type 0) → Quiet s f g a b p r q c E
      → (x j : ℕ) → Hinted s x j → Hinted (record s { phase = f; place = g }) x j
  quiet_hinted E z x j h = (
    h.0,
    h.1,
    carry s.phase f a p r z.was z.is z.rest (λ y. NotEarly x y)
        (z.early x) j h.2,
  )

  pub quiet_sound : Sound s → Quiet s f g a b p r q c (Aside s a b)
      → ((t : ℕ) (w : Stage) → s.serving ≤ t → p ≡ Has t w → (v : Stage) × (r ≡ Has t v))
      → Ok (record s { phase = f; place = g }) a r (g a)
      → Ok (record s { phase = f; place = g }) b (f b) c
      → Sound (record s { phase = f; place = g })
  quiet_sound y z still here there = record {
    drawn = y.drawn;
    room = y.room;
    each = λ i. dite (ℕ_discrete i a)
        (λ e. subst (λ k. Ok (record s { phase = f; place = g }) k (f k) (g k)) (sym e)
        (subst (λ k. Ok (record s { phase = f; place = g }) a k (g a)) (sym z.is) here))
        (λ na. dite (ℕ_discrete i b)
        (λ e. subst (λ k. Ok (record s { phase = f; place = g }) k (f k) (g k)) (sym e)
        (subst (λ k. Ok (record s { phase = f; place = g }) b (f b) k) (sym z.has) there))
        (λ nb. subst (λ k. Ok (record s { phase = f; place = g }) i k (g i)) (sym (z.rest i na))
        (subst (λ k. Ok (record s { phase = f; place = g }) i (s.phase i) k) (sym (z.others i nb))
        (ok_kept s (record s { phase = f; place = g }) i (s.phase i) (s.place i)
        (quiet_steps (Aside s a b) z i (s.phase i) (s.place i) (na, nb, refl, refl)) (y.each i)))));
    held = λ t le lt. let k = y.held t le lt in dite (ℕ_discrete (s.owner t) a)
        (λ e. let m = still t k.0 le (sym z.was ∙ ap s.phase (sym e) ∙ k.1) in
        (m.0, ap f e ∙ z.is ∙ m.1))
        (λ ne. (k.0, z.rest (s.owner t) ne ∙ k.1));
    hints = λ w x j e. quiet_hinted (Aside s a b) z x j (y.hints w x j e);
  }
