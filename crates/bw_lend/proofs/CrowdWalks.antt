-- The invariant is kept by the events of a seat that has a ticket, where nothing else changes.
use Rattle.std.proofs.Common.{◌≡◌, ◌≢◌, ℕ, ◌==◌, ◌<◌, ◌≤◌, []}
use Rattle.std.proofs.Common.{Bool, true, false, if◌then◌else◌, refl, sym, ap}
use Rattle.std.proofs.Common.{subst, arith, eqb-true}
use Rattle.bw_lend.specs.Crowd.{Stage, Drawn, Hinting, Reading, Looking, Retracting, Parking}
use Rattle.bw_lend.specs.Crowd.{ParkingHeld, Asleep, Fetching, Entering, Inside}
use Rattle.bw_lend.specs.Crowd.{Phase, Has, Wakes, Place, Away, Posted, Claimed, Done, Back}
use Rattle.bw_lend.specs.Crowd.{Crowd, put, moved, placed, seen, is_posted, is_held, fetched}
use Rattle.bw_lend.specs.Crowd.{retracted}
use Rattle.bw_lend.proofs.CrowdInvariant.{NotEarly}
use Rattle.bw_lend.proofs.CrowdInvariant.{OkPlace, Ok, Sound}
use Rattle.bw_lend.proofs.CrowdKept.{put_here, put_else, Quiet, Aside, ok_kept, quiet_steps}
use Rattle.bw_lend.proofs.CrowdKept.{quiet_sound}
use Rattle.std.proofs.lemmas.Bool.{eqb-false}

module _ (s : Crowd) (a t : ℕ) (w v : Stage) where
  walk_quiet : (E : ℕ → Phase → Place → Type 0) → s.phase a ≡ Has t w
      → ((x : ℕ) → NotEarly x (Has t w) → NotEarly x (Has t v))
      → Quiet s (put s.phase a (Has t v)) s.place a a (Has t w) (Has t v) (s.place a) (s.place a) E
  walk_quiet E was early = record {
    was = was;
    is = put_here s.phase a (Has t v);
    rest = λ h ne. put_else s.phase a h (Has t v) ne;
    had = refl;
    has = refl;
    others = λ h ne. refl;
    free = λ x i y o e h. h;
    holding = λ x i y o e h. h;
    coming = λ x i y o e q m st h. h;
    noting = λ x i y o e asleep h. h;
    waking = λ x i y o e asleep h. h;
    early = early;
  }

  -- the seat a is in another stage
  pub walk_sound : Sound s → s.phase a ≡ Has t w
      → ((x : ℕ) → NotEarly x (Has t w) → NotEarly x (Has t v))
      → (OkPlace s a t w (s.place a) → OkPlace s a t v (s.place a))
      → Sound (moved s a (Has t v))
  walk_sound y was early to =
      let old : Ok s a (Has t w) (s.place a) =
      subst (λ p. Ok s a p (s.place a)) was (y.each a) in
      let mid : Ok s a (Has t v) (s.place a) =
      (old.0, old.1, old.2, to old.3) in
      let new : Ok (moved s a (Has t v)) a (Has t v) (s.place a) =
      ok_kept s (moved s a (Has t v)) a (Has t v) (s.place a)
      (quiet_steps s (put s.phase a (Has t v)) s.place a a (Has t w) (Has t v) (s.place a)
      (s.place a)
      (λ i p q. Unit {0}) (walk_quiet (λ i p q. Unit {0}) was early) a (Has t v) (s.place a) tt)
      mid in
      quiet_sound s (put s.phase a (Has t v)) s.place a a (Has t w) (Has t v) (s.place a)
      (s.place a)
      y (walk_quiet (Aside s a a) was early) (λ x u le e. (v, same x u e)) new
      (subst (λ p. Ok (moved s a (Has t v)) a p (s.place a))
      (sym (put_here s.phase a (Has t v))) new)
    where
      same : (x : ℕ) (u : Stage) → Has t w ≡ Has x u → Has t v ≡ Has x v
      same x u e = let m : t ≡ x = cc e in ap (λ k. Has k v) m

-- what becomes of a stage
to_entering : (s : Crowd) (i t : ℕ) (q : Place) → t ≡ s.serving → OkPlace s i t Drawn q
    → OkPlace s i t Entering q
to_entering s i t Away e h = e
to_entering s i t (Posted u) e h = absurd h.2
to_entering s i t (Claimed u b) e h = absurd h.1
to_entering s i t (Done u b) e h = absurd h.2
to_entering s i t (Back u b) e h = absurd h.2

to_inside : (s : Crowd) (i t : ℕ) (q : Place) → OkPlace s i t Entering q → OkPlace s i t Inside q
to_inside s i t Away h = h
to_inside s i t (Posted u) h = absurd h.2
to_inside s i t (Claimed u b) h = absurd h.1
to_inside s i t (Done u b) h = absurd h.2
to_inside s i t (Back u b) h = absurd h.2

to_retracting : (s : Crowd) (i t : ℕ) (q : Place) → t ≡ s.serving → OkPlace s i t Looking q
    → OkPlace s i t Retracting q
to_retracting s i t Away e h = absurd h
to_retracting s i t (Posted u) e h = (h.0, h.1, (h.2, e))
to_retracting s i t (Claimed u b) e h = h
to_retracting s i t (Done u b) e h = h
to_retracting s i t (Back u b) e h = h

to_parking : (s : Crowd) (i t : ℕ) (q : Place) → t ≢ s.serving → OkPlace s i t Looking q
    → OkPlace s i t Parking q
to_parking s i t Away e h = absurd h
to_parking s i t (Posted u) e h = (h.0, h.1, (h.2, λ m. absurd (e m)))
to_parking s i t (Claimed u b) e h = h
to_parking s i t (Done u b) e h = h
to_parking s i t (Back u b) e h = h

to_awake : (s : Crowd) (i t : ℕ) (q : Place) → OkPlace s i t Asleep q → OkPlace s i t Reading q
to_awake s i t Away h = absurd h
to_awake s i t (Posted u) h = (h.0, h.1, h.2.0)
to_awake s i t (Claimed u b) h = h
to_awake s i t (Done u b) h = (h.0, h.1, h.2, tt)
to_awake s i t (Back u b) h = (h.0, h.1, h.2, tt)

module _ {A : Type 0} where
  -- by a test
  pub by_test : (B : A → Type 0) (b : Bool) (x y : A) → (b ≡ true → B x) → (b ≡ false → B y)
      → B (if b then x else y)
  by_test B true x y f g = f refl
  by_test B false x y f g = g refl

module _ (s : Crowd) (a t : ℕ) (y : Sound s) where
  pub look_drawn : s.phase a ≡ Has t Drawn
      → Sound (moved s a (Has t (if t == s.serving then Entering else Drawn)))
  look_drawn was = by_test (λ w. Sound (moved s a (Has t w))) (t == s.serving) Entering Drawn
      (λ e. walk_sound s a t Drawn Entering y was (λ x h. tt)
      (to_entering s a t (s.place a) (eqb-true t s.serving e)))
      (λ e. walk_sound s a t Drawn Drawn y was (λ x h. h) (λ h. h))

  pub look_entering : s.phase a ≡ Has t Entering
      → Sound (moved s a (Has t (if t == s.serving then Inside else Entering)))
  look_entering was = by_test (λ w. Sound (moved s a (Has t w))) (t == s.serving) Inside Entering
      (λ e. walk_sound s a t Entering Inside y was (λ x h. tt) (to_inside s a t (s.place a)))
      (λ e. walk_sound s a t Entering Entering y was (λ x h. h) (λ h. h))

  pub look_lent : s.phase a ≡ Has t Looking
      → Sound (moved s a (Has t (if t == s.serving then Retracting else Parking)))
  look_lent was = by_test (λ w. Sound (moved s a (Has t w))) (t == s.serving) Retracting Parking
      (λ e. walk_sound s a t Looking Retracting y was (λ x h. tt)
      (to_retracting s a t (s.place a) (eqb-true t s.serving e)))
      (λ e. walk_sound s a t Looking Parking y was (λ x h. tt)
      (to_parking s a t (s.place a) (eqb-false t s.serving e)))

  pub wake_up : s.phase a ≡ Has t Asleep → Sound (moved s a (Has t Reading))
  wake_up was = walk_sound s a t Asleep Reading y was (λ x h. tt) (to_awake s a t (s.place a))

  -- the old state of the seat, where the word of its place is known
  pub at_place : (w : Stage) (q : Place) → s.phase a ≡ Has t w → s.place a ≡ q
      → (t < s.next) × (s.owner t ≡ a) × (a < s.seats) × OkPlace s a t w q
  at_place w q was had = subst (λ o. Ok s a (Has t w) o) had
      (subst (λ p. Ok s a p (s.place a)) was (y.each a))

  seen_early : (q : Place) (x : ℕ) → NotEarly x (Has t (seen q))
  seen_early Away x = tt
  seen_early (Posted u) x = tt
  seen_early (Claimed u b) x = tt
  seen_early (Done u b) x = tt
  seen_early (Back u b) x = tt

  pub read : s.phase a ≡ Has t Reading → Sound (moved s a (Has t (seen (s.place a))))
  read was = walk_sound s a t Reading (seen (s.place a)) y was (λ x h. seen_early (s.place a) x)
      (to (s.place a))
    where
      to : (q : Place) → OkPlace s a t Reading q → OkPlace s a t (seen q) q
      to Away h = absurd h
      to (Posted u) h = h
      to (Claimed u b) h = h
      to (Done u b) h = h
      to (Back u b) h = h

  pub park_posted : s.phase a ≡ Has t Parking
      → Sound (moved s a (Has t (if is_posted (s.place a) then Asleep else Reading)))
  park_posted was = by_test (λ w. Sound (moved s a (Has t w))) (is_posted (s.place a)) Asleep
      Reading
      (λ e. walk_sound s a t Parking Asleep y was (λ x h. tt) (asleep (s.place a) e))
      (λ e. walk_sound s a t Parking Reading y was (λ x h. tt) (awake (s.place a) e))
    where
      asleep : (q : Place) → is_posted q ≡ true → OkPlace s a t Parking q → OkPlace s a t Asleep q
      asleep Away e h = absurd h
      asleep (Posted u) e h = h
      asleep (Claimed u b) e h = absurd (cc e)
      asleep (Done u b) e h = absurd (cc e)
      asleep (Back u b) e h = absurd (cc e)

      awake : (q : Place) → is_posted q ≡ false → OkPlace s a t Parking q → OkPlace s a t Reading q
      awake Away e h = absurd h
      awake (Posted u) e h = absurd (cc e)
      awake (Claimed u b) e h = h
      awake (Done u b) e h = h
      awake (Back u b) e h = h

  pub park_held : s.phase a ≡ Has t ParkingHeld
      → Sound (moved s a (Has t (if is_held (s.place a) then Asleep else Reading)))
  park_held was = by_test (λ w. Sound (moved s a (Has t w))) (is_held (s.place a)) Asleep Reading
      (λ e. walk_sound s a t ParkingHeld Asleep y was (λ x h. tt) (asleep (s.place a) e))
      (λ e. walk_sound s a t ParkingHeld Reading y was (λ x h. tt) (awake (s.place a)))
    where
      asleep : (q : Place) → is_held q ≡ true → OkPlace s a t ParkingHeld q
          → OkPlace s a t Asleep q
      asleep Away e h = absurd h
      asleep (Posted u) e h = absurd (cc e)
      asleep (Claimed u b) e h = h
      asleep (Done u b) e h = absurd (cc e)
      asleep (Back u b) e h = absurd (cc e)

      awake : (q : Place) → OkPlace s a t ParkingHeld q → OkPlace s a t Reading q
      awake Away h = absurd h
      awake (Posted u) h = absurd h.2
      awake (Claimed u b) h = h
      awake (Done u b) h = h
      awake (Back u b) h = h

-- a seat that has a ticket gets another phase and another word of its place
module _ (s : Crowd) (a t : ℕ) (w : Stage) (r : Phase) (q c : Place) where
  own_sound : Sound s → s.phase a ≡ Has t w → s.place a ≡ q
      → ((x : ℕ) → NotEarly x (Has t w) → NotEarly x r)
      → ((x i : ℕ) → q ≡ Claimed x i → ⊥)
      → ((x : ℕ) (u : Stage) → s.serving ≤ x → Has t w ≡ Has x u → (v : Stage) × (r ≡ Has x v))
      → Ok (placed s a r a c) a r c
      → Sound (placed s a r a c)
  own_sound y was had early free still new =
      quiet_sound s (put s.phase a r) (put s.place a c) a a (Has t w) r q c y (record {
        was = was;
        is = put_here s.phase a r;
        rest = λ h ne. put_else s.phase a h r ne;
        had = had;
        has = put_here s.place a c;
        others = λ h ne. put_else s.place a h c ne;
        free = λ x i y o e h. absurd (free x i h);
        holding = λ x i y o e h. absurd h;
        coming = λ x i y o e q m st h. absurd h;
        noting = λ x i y o e asleep h. absurd h;
        waking = λ x i y o e asleep h. absurd h;
        early = early;
      }) still
      (subst (λ o. Ok (placed s a r a c) a r o) (sym (put_here s.place a c)) new)
      (subst (λ p. Ok (placed s a r a c) a p c) (sym (put_here s.phase a r)) new)

module _ (s : Crowd) (a t : ℕ) (y : Sound s) where
  pub lend : s.phase a ≡ Has t Drawn → Sound (placed s a (Has t Hinting) a (Posted t))
  lend was = at_home (s.place a) refl
    where
      at_home : (q : Place) → s.place a ≡ q → Sound (placed s a (Has t Hinting) a (Posted t))
      at_home Away had = let old = at_place s a t y Drawn Away was had in
          own_sound s a t Drawn (Has t Hinting) Away (Posted t) y was had (λ x h. h)
          (λ x i e. cc e)
          (λ x u le e. (Hinting, (let m : t ≡ x = cc e in ap (λ k. Has k Hinting) m)))
          (old.0, old.1, old.2, (refl, old.3, tt))
      at_home (Posted u) had = absurd ((at_place s a t y Drawn (Posted u) was had).3.2)
      at_home (Claimed u b) had = absurd ((at_place s a t y Drawn (Claimed u b) was had).3.1)
      at_home (Done u b) had = absurd ((at_place s a t y Drawn (Done u b) was had).3.2)
      at_home (Back u b) had = absurd ((at_place s a t y Drawn (Back u b) was had).3.2)

  pub retract : s.phase a ≡ Has t Retracting → (q : Place) → s.place a ≡ q
      → Sound (retracted s a t q)
  retract was Away had = absurd ((at_place s a t y Retracting Away was had).3)
  retract was (Posted u) had = let old = at_place s a t y Retracting (Posted u) was had in
      own_sound s a t Retracting (Has t Entering) (Posted u) Away y was had (λ x h. tt)
      (λ x i e. cc e)
      (λ x v le e. (Entering, (let m : t ≡ x = cc e in ap (λ k. Has k Entering) m)))
      (old.0, old.1, old.2, old.3.2.1)
  retract was (Claimed u b) had = walk_sound s a t Retracting Reading y was (λ x h. tt)
      (λ h. subst (λ o. OkPlace s a t Reading o) (sym had)
      (at_place s a t y Retracting (Claimed u b) was had).3)
  retract was (Done u b) had = walk_sound s a t Retracting Reading y was (λ x h. tt)
      (λ h. subst (λ o. OkPlace s a t Reading o) (sym had)
      (at_place s a t y Retracting (Done u b) was had).3)
  retract was (Back u b) had = walk_sound s a t Retracting Reading y was (λ x h. tt)
      (λ h. subst (λ o. OkPlace s a t Reading o) (sym had)
      (at_place s a t y Retracting (Back u b) was had).3)

  pub fetch : s.phase a ≡ Has t Fetching → (q : Place) → s.place a ≡ q
      → Sound (placed s a (fetched t q) a Away)
  fetch was Away had = absurd ((at_place s a t y Fetching Away was had).3)
  fetch was (Posted u) had = absurd ((at_place s a t y Fetching (Posted u) was had).3.2)
  fetch was (Claimed u b) had = absurd ((at_place s a t y Fetching (Claimed u b) was had).3.1)
  fetch was (Done u b) had = let old = at_place s a t y Fetching (Done u b) was had in
      own_sound s a t Fetching (Wakes []) (Done u b) Away y was had (λ x h. tt)
      (λ x i e. cc e)
      (λ x v le e. absurd (let m : t ≡ x = cc e in let lt = old.3.1 in omega arith)) refl
  fetch was (Back u b) had = let old = at_place s a t y Fetching (Back u b) was had in
      own_sound s a t Fetching (Has t Entering) (Back u b) Away y was had (λ x h. tt)
      (λ x i e. cc e)
      (λ x v le e. (Entering, (let m : t ≡ x = cc e in ap (λ k. Has k Entering) m)))
      (old.0, old.1, old.2, old.3.1)
