-- Each stage on the way to the next ticket, from the last one back.
use Rattle.std.proofs.Common.{◌≡◌, ◌≢◌, ℕ, ◌<◌, List}
use Rattle.std.proofs.Common.{Some, true, false, if◌then◌else◌, refl, sym, ap}
use Rattle.std.proofs.Common.{◌∙◌, subst, arith, eq-eqb, inl, inr, is_some}
use Rattle.bw_lend.specs.Crowd.{Stage, Reading, Looking, Retracting, Parking}
use Rattle.bw_lend.specs.Crowd.{ParkingHeld, Asleep, Fetching, Entering, Inside}
use Rattle.bw_lend.specs.Crowd.{EnteringFor, Helping}
use Rattle.bw_lend.specs.Crowd.{Has, Leaves, Place, Away, Posted, Claimed, Back}
use Rattle.bw_lend.specs.Crowd.{Crowd, Event, Look, Read, Retract, Park}
use Rattle.bw_lend.specs.Crowd.{Fetch, Leave}
use Rattle.bw_lend.specs.Crowd.{is_possible, happens, or_same, after}
use Rattle.bw_lend.specs.Crowd.{retracted, fetched, moved, placed}
use Rattle.bw_lend.specs.Crowd.{is_posted, is_held, seen}
use Rattle.bw_lend.specs.CrowdLaws.{seat_of, is_still}
use Rattle.bw_lend.proofs.CrowdInvariant.{Sound}
use Rattle.bw_lend.proofs.CrowdKept.{put_at}
use Rattle.bw_lend.proofs.CrowdRuns.{happens_sound}
use Rattle.bw_lend.proofs.CrowdEffects.{after_at, beside, IsPlaced}
use Rattle.bw_lend.proofs.CrowdStages.{Rises, Way, rises, IsAt, event_at, can_at, stays_up}
use Rattle.bw_lend.proofs.CrowdStages.{alone}

-- after an event with this outcome
pub leads : (n : ℕ) (s x : Crowd) (e : Event) → Sound s → after s e ≡ Some x → (Sound x → Rises n x)
    → Rises n (happens s e)
leads n s x e g is next = let same : happens s e ≡ x = ap (or_same s) is in
    subst (Rises n) (sym same) (next (subst Sound same (happens_sound s e g)))

-- leaving raises the ticket that is served
own_inside : (s : Crowd) (e : Event) (t : ℕ) → is_some (after_at s e (Has t Inside)) ≡ true
    → s.serving < (or_same s (after_at s e (Has t Inside))).serving
own_inside s (Leave a) t h = omega arith
own_inside s _ t h = absurd (cc h)

pub from_inside : (s : Crowd) (i t : ℕ) → Sound s → IsAt i (Has t Inside) t s → Rises 1 s
from_inside s i t g h = rises 0 i (IsAt i (Has t Inside) t) (alone 0 i t (Has t Inside) refl
    (λ x e y at mine can same.
    let lt = own_inside x e t (can_at x e i (Has t Inside) at.0 mine can) in
    let is = ap (λ o. (or_same x o).serving) (event_at x e i (Has t Inside) at.0 mine) in
    absurd (omega arith))) s g h

own_helping : (s : Crowd) (e : Event) (x : ℕ) (js : List ℕ) (j : ℕ)
    → is_some (after_at s e (Leaves x js (Helping j))) ≡ true
    → s.serving < (or_same s (after_at s e (Leaves x js (Helping j)))).serving
own_helping s (Leave a) x js j h = omega arith
own_helping s _ x js j h = absurd (cc h)

pub from_helping : (s : Crowd) (i t : ℕ) (js : List ℕ) (j : ℕ) → Sound s
    → IsAt i (Leaves t js (Helping j)) t s → Rises 1 s
from_helping s i t js j g h = rises 0 i (IsAt i (Leaves t js (Helping j)) t)
    (alone 0 i t (Leaves t js (Helping j)) refl
    (λ x e y at mine can same.
    let lt = own_helping x e t js j (can_at x e i (Leaves t js (Helping j)) at.0 mine can) in
    let is = ap (λ o. (or_same x o).serving) (event_at x e i (Leaves t js (Helping j)) at.0 mine) in
    absurd (omega arith))) s g h

own_entering : (s : Crowd) (e : Event) (t : ℕ) → s.serving ≡ t
    → is_some (after_at s e (Has t Entering)) ≡ true
    → after_at s e (Has t Entering) ≡ Some (moved s (seat_of e) (Has t Inside))
own_entering s (Look a) t v h =
    ap (λ b. Some (moved s a (Has t (if b then Inside else Entering)))) (eq-eqb t s.serving (sym v))
own_entering s _ t v h = absurd (cc h)

pub from_entering : (s : Crowd) (i t : ℕ) → Sound s → IsAt i (Has t Entering) t s → Rises 2 s
from_entering s i t g h = rises 1 i (IsAt i (Has t Entering) t) (alone 1 i t (Has t Entering) refl
    (λ x e y at mine can same. leads 1 x (moved x (seat_of e) (Has t Inside)) e y
    (event_at x e i (Has t Entering) at.0 mine
    ∙ own_entering x e t at.1 (can_at x e i (Has t Entering) at.0 mine can))
    (λ z. from_inside (moved x (seat_of e) (Has t Inside)) i t z
    (put_at x.phase (seat_of e) i (Has t Inside) (sym mine), at.1)))) s g h

own_entering_for : (s : Crowd) (e : Event) (t : ℕ) (js : List ℕ) (j : ℕ) → s.serving ≡ t
    → is_some (after_at s e (Leaves t js (EnteringFor j))) ≡ true
    → after_at s e (Leaves t js (EnteringFor j))
    ≡ Some (moved s (seat_of e) (Leaves t js (Helping j)))
own_entering_for s (Look a) t js j v h =
    ap (λ b. Some (moved s a (Leaves t js (if b then Helping j else EnteringFor j))))
    (eq-eqb t s.serving (sym v))
own_entering_for s _ t js j v h = absurd (cc h)

pub from_entering_for : (s : Crowd) (i t : ℕ) (js : List ℕ) (j : ℕ) → Sound s
    → IsAt i (Leaves t js (EnteringFor j)) t s → Rises 2 s
from_entering_for s i t js j g h = rises 1 i (IsAt i (Leaves t js (EnteringFor j)) t)
    (alone 1 i t (Leaves t js (EnteringFor j)) refl
    (λ x e y at mine can same. leads 1 x (moved x (seat_of e) (Leaves t js (Helping j))) e y
    (event_at x e i (Leaves t js (EnteringFor j)) at.0 mine
    ∙ own_entering_for x e t js j at.1
    (can_at x e i (Leaves t js (EnteringFor j)) at.0 mine can))
    (λ z. from_helping (moved x (seat_of e) (Leaves t js (Helping j))) i t js j z
    (put_at x.phase (seat_of e) i (Leaves t js (Helping j)) (sym mine), at.1)))) s g h

-- The seat i was given back with its call not made, and its ticket t is served.
abbrev pub IsBack : ℕ → Stage → ℕ → Crowd → Type 0
IsBack i w t s = (s.phase i ≡ Has t w) × (s.serving ≡ t)
    × ((u : ℕ) × (h : ℕ) × (s.place i ≡ Back u h))

pub back_stays : (s : Crowd) (e : Event) (i : ℕ) → Sound s → i ≢ seat_of e
    → ((u : ℕ) × (h : ℕ) × (s.place i ≡ Back u h))
    → (u : ℕ) × (h : ℕ) × ((happens s e).place i ≡ Back u h)
back_stays s e i g ne b = by_placed ((beside s e i g).1 ne)
  where
    by_placed : IsPlaced s (seat_of e) i (happens s e)
        → (u : ℕ) × (h : ℕ) × ((happens s e).place i ≡ Back u h)
    by_placed (inl same) = (b.0, b.1, same ∙ b.2)
    by_placed (inr (inl p)) = absurd (posted p.0 b.0 b.1 (sym p.2 ∙ b.2))
      where
        posted : (u v h : ℕ) → Posted u ≡ Back v h → ⊥
        posted u v h m = cc m
    by_placed (inr (inr p)) = absurd (claimed p.0 p.1 b.0 b.1 (sym p.2 ∙ b.2))
      where
        claimed : (u k v h : ℕ) → Claimed u k ≡ Back v h → ⊥
        claimed u k v h m = cc m

back_stage : (n i t : ℕ) (w : Stage) → is_still (Has t w) ≡ false
    → ((s : Crowd) (e : Event) → Sound s → IsBack i w t s → seat_of e ≡ i
    → is_possible s e ≡ true → Rises n (happens s e)) → Way n i (IsBack i w t)
back_stage n i t w awake own = record {
  up = λ s h. ap is_still h.0 ∙ awake;
  own = λ s e g h mine can same. own s e g h mine can;
  other = λ s e g h ne same. inr (
    stays_up s e i (Has t w) g awake h.0 ne,
    same ∙ h.1,
    back_stays s e i g ne h.2,
  );
}

-- the word of the place of an event's own seat
pub own_place : (s : Crowd) (e : Event) (i : ℕ) (q : Place) → seat_of e ≡ i → s.place i ≡ q
    → s.place (seat_of e) ≡ q
own_place s e i q mine is = ap s.place mine ∙ is

own_fetching : (s : Crowd) (e : Event) (t : ℕ) → is_some (after_at s e (Has t Fetching)) ≡ true
    → after_at s e (Has t Fetching)
    ≡ Some (placed s (seat_of e) (fetched t (s.place (seat_of e))) (seat_of e) Away)
own_fetching s (Fetch a) t h = refl
own_fetching s _ t h = absurd (cc h)

pub fetching_back : (s : Crowd) (i t : ℕ) → Sound s → IsBack i Fetching t s → Rises 3 s
fetching_back s i t g h = rises 2 i (IsBack i Fetching t) (back_stage 2 i t Fetching refl
    (λ x e y at mine can. leads 2 x
    (placed x (seat_of e) (fetched t (x.place (seat_of e))) (seat_of e) Away) e y
    (event_at x e i (Has t Fetching) at.0 mine
    ∙ own_fetching x e t (can_at x e i (Has t Fetching) at.0 mine can))
    (λ z. from_entering
    (placed x (seat_of e) (fetched t (x.place (seat_of e))) (seat_of e) Away) i t z (
      put_at x.phase (seat_of e) i (fetched t (x.place (seat_of e))) (sym mine)
          ∙ ap (fetched t) (own_place x e i (Back at.2.0 at.2.1) mine at.2.2),
      at.1,
    )))) s g h

pub own_reading : (s : Crowd) (e : Event) (t : ℕ) → is_some (after_at s e (Has t Reading)) ≡ true
    → after_at s e (Has t Reading)
    ≡ Some (moved s (seat_of e) (Has t (seen (s.place (seat_of e)))))
own_reading s (Read a) t h = refl
own_reading s _ t h = absurd (cc h)

pub reading_back : (s : Crowd) (i t : ℕ) → Sound s → IsBack i Reading t s → Rises 4 s
reading_back s i t g h = rises 3 i (IsBack i Reading t) (back_stage 3 i t Reading refl
    (λ x e y at mine can. leads 3 x (moved x (seat_of e) (Has t (seen (x.place (seat_of e))))) e y
    (event_at x e i (Has t Reading) at.0 mine
    ∙ own_reading x e t (can_at x e i (Has t Reading) at.0 mine can))
    (λ z. fetching_back (moved x (seat_of e) (Has t (seen (x.place (seat_of e))))) i t z (
      put_at x.phase (seat_of e) i (Has t (seen (x.place (seat_of e)))) (sym mine)
          ∙ ap (λ q. Has t (seen q)) (own_place x e i (Back at.2.0 at.2.1) mine at.2.2),
      at.1,
      at.2,
    )))) s g h

-- a stage that leads a seat which is back to read its word again
reads_back : (i t : ℕ) (w : Stage) → is_still (Has t w) ≡ false
    → ((s : Crowd) (e : Event) → is_some (after_at s e (Has t w)) ≡ true
    → (u h : ℕ) → s.place (seat_of e) ≡ Back u h
    → after_at s e (Has t w) ≡ Some (moved s (seat_of e) (Has t Reading)))
    → (s : Crowd) → Sound s → IsBack i w t s → Rises 5 s
reads_back i t w awake own s g h = rises 4 i (IsBack i w t) (back_stage 4 i t w awake
    (λ x e y at mine can. leads 4 x (moved x (seat_of e) (Has t Reading)) e y
    (event_at x e i (Has t w) at.0 mine
    ∙ own x e (can_at x e i (Has t w) at.0 mine can) at.2.0 at.2.1
    (own_place x e i (Back at.2.0 at.2.1) mine at.2.2))
    (λ z. reading_back (moved x (seat_of e) (Has t Reading)) i t z (
      put_at x.phase (seat_of e) i (Has t Reading) (sym mine),
      at.1,
      at.2,
    )))) s g h

pub own_retracting : (s : Crowd) (e : Event) (t : ℕ)
    → is_some (after_at s e (Has t Retracting)) ≡ true
    → after_at s e (Has t Retracting) ≡ Some (retracted s (seat_of e) t (s.place (seat_of e)))
own_retracting s (Retract a) t h = refl
own_retracting s _ t h = absurd (cc h)

pub retracting_back : (s : Crowd) (i t : ℕ) → Sound s → IsBack i Retracting t s → Rises 5 s
retracting_back s i t g h = reads_back i t Retracting refl
    (λ x e can u b is. own_retracting x e t can
    ∙ ap (λ q. Some (retracted x (seat_of e) t q)) is) s g h

pub own_parking : (s : Crowd) (e : Event) (t : ℕ) → is_some (after_at s e (Has t Parking)) ≡ true
    → after_at s e (Has t Parking) ≡ Some (moved s (seat_of e)
    (Has t (if is_posted (s.place (seat_of e)) then Asleep else Reading)))
own_parking s (Park a) t h = refl
own_parking s _ t h = absurd (cc h)

pub parking_back : (s : Crowd) (i t : ℕ) → Sound s → IsBack i Parking t s → Rises 5 s
parking_back s i t g h = reads_back i t Parking refl
    (λ x e can u b is. own_parking x e t can
    ∙ ap (λ q. Some (moved x (seat_of e) (Has t (if is_posted q then Asleep else Reading)))) is)
    s g h

own_parking_held : (s : Crowd) (e : Event) (t : ℕ)
    → is_some (after_at s e (Has t ParkingHeld)) ≡ true
    → after_at s e (Has t ParkingHeld) ≡ Some (moved s (seat_of e)
    (Has t (if is_held (s.place (seat_of e)) then Asleep else Reading)))
own_parking_held s (Park a) t h = refl
own_parking_held s _ t h = absurd (cc h)

pub held_back : (s : Crowd) (i t : ℕ) → Sound s → IsBack i ParkingHeld t s → Rises 5 s
held_back s i t g h = reads_back i t ParkingHeld refl
    (λ x e can u b is. own_parking_held x e t can
    ∙ ap (λ q. Some (moved x (seat_of e) (Has t (if is_held q then Asleep else Reading)))) is) s g h

pub own_looking : (s : Crowd) (e : Event) (t : ℕ) → s.serving ≡ t
    → is_some (after_at s e (Has t Looking)) ≡ true
    → after_at s e (Has t Looking) ≡ Some (moved s (seat_of e) (Has t Retracting))
own_looking s (Look a) t v h =
    ap (λ b. Some (moved s a (Has t (if b then Retracting else Parking))))
    (eq-eqb t s.serving (sym v))
own_looking s _ t v h = absurd (cc h)

pub looking_back : (s : Crowd) (i t : ℕ) → Sound s → IsBack i Looking t s → Rises 6 s
looking_back s i t g h = rises 5 i (IsBack i Looking t) (back_stage 5 i t Looking refl
    (λ x e y at mine can. leads 5 x (moved x (seat_of e) (Has t Retracting)) e y
    (event_at x e i (Has t Looking) at.0 mine
    ∙ own_looking x e t at.1 (can_at x e i (Has t Looking) at.0 mine can))
    (λ z. retracting_back (moved x (seat_of e) (Has t Retracting)) i t z (
      put_at x.phase (seat_of e) i (Has t Retracting) (sym mine),
      at.1,
      at.2,
    )))) s g h
