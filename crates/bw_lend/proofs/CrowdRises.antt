-- Rounds raise the ticket that is served: in each state where it is drawn some seat is to make the
-- next event on the way, and no event of another seat leads back.
use Rattle.std.proofs.Common.{◌≡◌, ◌≢◌, ℕ, zero, suc, ◌+◌, ◌%◌, ◌<◌, ◌≤◌, ◌⊎◌, List, [], ◌∷◌}
use Rattle.std.proofs.Common.{Some, None, true, false, if◌then◌else◌, refl, sym, ap}
use Rattle.std.proofs.Common.{◌∙◌, subst, arith, eq-eqb, inl, inr, ⊎_elim, is_some, length, ◌-◌}
use Rattle.std.proofs.Common.{◌*◌, Bool}
use Rattle.std.proofs.lemmas.Bool.{le-leb}
use mathlib.Core.Logic.{dite}
use native.Mathlib.Decide.{ℕ_discrete, dec_le}
use Rattle.bw_lend.specs.Crowd.{are_in}
use Rattle.bw_lend.proofs.CrowdComes.{passed}
use Rattle.bw_lend.specs.Crowd.{Stage, Drawn, Hinting, Reading, Looking, Retracting, Parking}
use Rattle.bw_lend.specs.Crowd.{ParkingHeld, Asleep, Fetching, Entering, Inside}
use Rattle.bw_lend.specs.Crowd.{Errand, Peeking, Claiming, EnteringFor, Giving, GivingLast}
use Rattle.bw_lend.specs.Crowd.{Returning, LookBehind}
use Rattle.bw_lend.specs.Crowd.{Phase, Has, Leaves, Wakes, Place, Away, Posted, Claimed, Done, Back}
use Rattle.bw_lend.specs.Crowd.{Crowd, Event, Look, Lend, StoreHint, Park}
use Rattle.bw_lend.specs.Crowd.{Glance, Peek, ClaimToHelp}
use Rattle.bw_lend.specs.Crowd.{ClaimToReturn, Give, is_possible, happens, or_same}
use Rattle.bw_lend.specs.Crowd.{put, moved, placed, is_posted_with}
use Rattle.bw_lend.specs.Crowd.{is_posted, hinted}
use Rattle.bw_lend.specs.CrowdLaws.{seat_of, is_still, Comes}
use Rattle.bw_lend.proofs.CrowdInvariant.{Sound, Stands}
use Rattle.bw_lend.proofs.CrowdKept.{put_here, put_at, put_else}
use Rattle.bw_lend.proofs.CrowdWalks.{at_place}
use Rattle.bw_lend.proofs.CrowdRuns.{happens_sound}
use Rattle.bw_lend.proofs.CrowdEffects.{after_at, beside, IsPlaced}
use Rattle.bw_lend.proofs.CrowdStages.{Rises, more, Way, rises, IsAt, event_at, can_at, stays_up}
use Rattle.bw_lend.proofs.CrowdStages.{alone}
use Rattle.bw_lend.proofs.CrowdRaises.{leads}
use Rattle.bw_lend.proofs.CrowdRaises.{from_inside}
use Rattle.bw_lend.proofs.CrowdRaises.{from_entering}
use Rattle.bw_lend.specs.Crowd.{start, run}
use Rattle.bw_lend.specs.CrowdRounds.{AreRounds, run_rounds, SeventeenRoundsRaiseServing}
use Rattle.bw_lend.specs.CrowdRounds.{DrawnTicketsAreLeft}
use Rattle.bw_lend.proofs.CrowdInvariant.{HomeAt}
use Rattle.bw_lend.proofs.CrowdErrands.{at_errand}
use Rattle.bw_lend.proofs.CrowdRuns.{run_sound, start_sound}
use Rattle.bw_lend.proofs.CrowdStages.{rounds_le, rounds_drawn, rounds_sound}
use Rattle.bw_lend.proofs.CrowdComes.{Roused, asleep_next, from_back, from_claimed}
use Rattle.bw_lend.proofs.CrowdComes.{retracting_posted, looking_posted, reading_posted}

-- The seat i is lent, nobody has claimed it, and it sleeps or is about to; its ticket t is served.
abbrev MaySleep : ℕ → ℕ → Crowd → Type 0
MaySleep i t s = ((s.phase i ≡ Has t Parking) ⊎ (s.phase i ≡ Has t Asleep)) × (s.serving ≡ t)
    × (s.place i ≡ Posted t)

own_may_park : (s : Crowd) (e : Event) (t : ℕ) → (after_at s e (Has t Parking) ≡ None)
    ⊎ (after_at s e (Has t Parking) ≡ Some (moved s (seat_of e)
    (Has t (if is_posted (s.place (seat_of e)) then Asleep else Reading))))
own_may_park s (Park a) t = inr refl
own_may_park s _ t = inl refl

-- the stage of a seat that slept or was about to, after any event
abbrev Nears : Crowd → ℕ → ℕ → Type 0
Nears x i t = (x.phase i ≡ Has t Parking) ⊎ Roused x i t

parking_next : (s : Crowd) (e : Event) (i t : ℕ) → Sound s → s.phase i ≡ Has t Parking
    → s.place i ≡ Posted t
    → Nears (happens s e) i t × IsPlaced s (seat_of e) i (happens s e)
parking_next s e i t g at had = dite (ℕ_discrete i (seat_of e)) (λ m. mine m (own_may_park s e t))
    (λ ne. (inl (stays_up s e i (Has t Parking) g refl at ne), (beside s e i g).1 ne))
  where
    mine : i ≡ seat_of e → (after_at s e (Has t Parking) ≡ None)
        ⊎ (after_at s e (Has t Parking) ≡ Some (moved s (seat_of e)
        (Has t (if is_posted (s.place (seat_of e)) then Asleep else Reading))))
        → Nears (happens s e) i t × IsPlaced s (seat_of e) i (happens s e)
    mine m (inl none) = let is : happens s e ≡ s =
        ap (or_same s) (event_at s e i (Has t Parking) at (sym m) ∙ none) in
        (inl (ap (λ (z : Crowd). z.phase i) is ∙ at), inl (ap (λ (z : Crowd). z.place i) is))
    mine m (inr some) = let is : happens s e ≡ moved s (seat_of e)
        (Has t (if is_posted (s.place (seat_of e)) then Asleep else Reading)) =
        ap (or_same s) (event_at s e i (Has t Parking) at (sym m) ∙ some) in (
          inr (inl (ap (λ (z : Crowd). z.phase i) is ∙ put_at s.phase (seat_of e) i
              (Has t (if is_posted (s.place (seat_of e)) then Asleep else Reading)) m
              ∙ ap (λ q. Has t (if is_posted q then Asleep else Reading))
              (ap s.place (sym m) ∙ had))),
          inl (ap (λ (z : Crowd). z.place i) is),
        )

nears : (s : Crowd) (e : Event) (i t : ℕ) → Sound s → MaySleep i t s
    → Nears (happens s e) i t × IsPlaced s (seat_of e) i (happens s e)
nears s e i t g h = by_stage h.0
  where
    by_stage : (s.phase i ≡ Has t Parking) ⊎ (s.phase i ≡ Has t Asleep)
        → Nears (happens s e) i t × IsPlaced s (seat_of e) i (happens s e)
    by_stage (inl at) = parking_next s e i t g at h.2
    by_stage (inr at) = let n = asleep_next s e i t g at in (inr n.0, n.1)

-- after any event nine of ten rounds are enough, or it still may sleep
sleeper_goes : (s : Crowd) (e : Event) (i t : ℕ) → Sound s → MaySleep i t s
    → (happens s e).serving ≡ s.serving → Rises 10 (happens s e) ⊎ MaySleep i t (happens s e)
sleeper_goes s e i t g h same = by_both (nears s e i t g h).0 (nears s e i t g h).1
  where
    y : Sound (happens s e)
    y = happens_sound s e g

    was_claimed : (u c v : ℕ) → Claimed u c ≡ Posted v → ⊥
    was_claimed u c v m = cc m

    claimed : (w : Stage) (v : ℕ) → (happens s e).phase i ≡ Has t w
        → (happens s e).place i ≡ Claimed v (seat_of e) → Rises 10 (happens s e)
    claimed w v at had = more 7 10 (happens s e) (omega arith)
        (from_claimed (happens s e) i t v (seat_of e) w y at (same ∙ h.1) had)

    by_both : Nears (happens s e) i t → IsPlaced s (seat_of e) i (happens s e)
        → Rises 10 (happens s e) ⊎ MaySleep i t (happens s e)
    by_both (inl at) (inl k) = inr (inl at, same ∙ h.1, k ∙ h.2)
    by_both (inr (inl at)) (inl k) = inr (inr at, same ∙ h.1, k ∙ h.2)
    by_both (inr (inr at)) (inl k) =
        inl (reading_posted (happens s e) i t y (at, same ∙ h.1, k ∙ h.2))
    by_both (inl at) (inr (inl p)) = inl (claimed Parking p.1 at p.3)
    by_both (inr (inl at)) (inr (inl p)) = inl (claimed Asleep p.1 at p.3)
    by_both (inr (inr at)) (inr (inl p)) = inl (claimed Reading p.1 at p.3)
    by_both near (inr (inr p)) = absurd (was_claimed p.0 p.1 t (sym p.2 ∙ h.2))

-- The seat h is in the phase p, on its way to the seat i.
abbrev IsComing : ℕ → Phase → ℕ → ℕ → Crowd → Type 0
IsComing h p i t s = (s.phase h ≡ p) × MaySleep i t s

coming_way : (n h i t : ℕ) (p : Phase) → 10 ≤ n → is_still p ≡ false
    → ((s : Crowd) (e : Event) → Sound s → IsComing h p i t s → seat_of e ≡ h
    → is_possible s e ≡ true → (happens s e).serving ≡ s.serving → Rises n (happens s e))
    → Way n h (IsComing h p i t)
coming_way n h i t p le awake own = record {
  up = λ s k. ap is_still k.0 ∙ awake;
  own = own;
  other = λ s e g k ne same. ⊎_elim
      (λ r. inl (more 10 n (happens s e) le r))
      (λ m. inr (stays_up s e h p g awake k.0 ne, m))
      (sleeper_goes s e i t g k.1 same);
}

-- the two are not one
apart : (s : Crowd) (h i t x : ℕ) (js : List ℕ) (r : Errand)
    → IsComing h (Leaves x js r) i t s → i ≢ h
apart s h i t x js r k m = by_stage k.1.0
  where
    by_stage : (s.phase i ≡ Has t Parking) ⊎ (s.phase i ≡ Has t Asleep) → ⊥
    by_stage (inl at) = let q : Has t Parking ≡ Leaves x js r = sym at ∙ ap s.phase m ∙ k.0 in cc q
    by_stage (inr at) = let q : Has t Asleep ≡ Leaves x js r = sym at ∙ ap s.phase m ∙ k.0 in cc q

-- the seat i may sleep as before where another goes on
still_sleeps : (s z : Crowd) (i t : ℕ) → MaySleep i t s → z.phase i ≡ s.phase i
    → z.serving ≡ s.serving → z.place i ≡ s.place i → MaySleep i t z
still_sleeps s z i t h same v word = (
  ⊎_elim (λ at. inl (same ∙ at)) (λ at. inr (same ∙ at)) h.0,
  v ∙ h.1,
  word ∙ h.2,
)

own_claiming : (s : Crowd) (e : Event) (x : ℕ) (js : List ℕ) (j : ℕ) → s.place j ≡ Posted x
    → is_some (after_at s e (Leaves x js (Claiming j))) ≡ true
    → (or_same s (after_at s e (Leaves x js (Claiming j)))).place j ≡ Claimed x (seat_of e)
own_claiming s (ClaimToHelp a) x js j had h =
    ap (λ b. (if b then placed s a (Leaves x js (EnteringFor j)) j (Claimed x a)
    else moved s a (Wakes js)).place j) (ap (is_posted_with x) had ∙ eq-eqb x x refl)
    ∙ put_here s.place j (Claimed x a)
own_claiming s (ClaimToReturn a) x js j had h =
    ap (λ b. (if b then placed s a (Leaves x js (Returning j)) j (Claimed x a)
    else moved s a (Wakes js)).place j) (ap (is_posted_with x) had ∙ eq-eqb x x refl)
    ∙ put_here s.place j (Claimed x a)
own_claiming s _ x js j had h = absurd (cc h)

from_claiming : (s : Crowd) (h i t : ℕ) (js : List ℕ) → Sound s
    → IsComing h (Leaves t js (Claiming i)) i t s → Rises 11 s
from_claiming s h i t js g k = rises 10 h (IsComing h (Leaves t js (Claiming i)) i t)
    (coming_way 10 h i t (Leaves t js (Claiming i)) (omega arith) refl
    (λ x e y at mine can same.
    let had : (happens x e).place i ≡ Claimed t (seat_of e) =
    ap (λ o. (or_same x o).place i) (event_at x e h (Leaves t js (Claiming i)) at.0 mine)
    ∙ own_claiming x e t js i at.1.2
    (can_at x e h (Leaves t js (Claiming i)) at.0 mine can) in
    near x e y same at (seat_of e) had (nears x e i t y at.1).0)) s g k
  where
    near : (x : Crowd) (e : Event) → Sound x → (happens x e).serving ≡ x.serving
        → IsComing h (Leaves t js (Claiming i)) i t x → (b : ℕ)
        → (happens x e).place i ≡ Claimed t b → Nears (happens x e) i t → Rises 10 (happens x e)
    near x e y same at b had (inl m) = more 7 10 (happens x e) (omega arith)
        (from_claimed (happens x e) i t t b Parking (happens_sound x e y) m (same ∙ at.1.1) had)
    near x e y same at b had (inr (inl m)) = more 7 10 (happens x e) (omega arith)
        (from_claimed (happens x e) i t t b Asleep (happens_sound x e y) m (same ∙ at.1.1) had)
    near x e y same at b had (inr (inr m)) = more 7 10 (happens x e) (omega arith)
        (from_claimed (happens x e) i t t b Reading (happens_sound x e y) m (same ∙ at.1.1) had)

own_peeking : (s : Crowd) (e : Event) (x : ℕ) (js : List ℕ)
    → is_some (after_at s e (Leaves x js (Peeking zero))) ≡ true
    → after_at s e (Leaves x js (Peeking zero))
    ≡ Some (moved s (seat_of e) (hinted x js (s.hint (x % s.words))))
own_peeking s (Peek a) x js h = refl
own_peeking s _ x js h = absurd (cc h)

own_loading : (s : Crowd) (e : Event) (x : ℕ) (js : List ℕ) (k : ℕ) → x < s.next
    → is_some (after_at s e (Leaves x js (Peeking (suc k)))) ≡ true
    → (after_at s e (Leaves x js (Peeking (suc k)))
    ≡ Some (moved s (seat_of e) (hinted x js (s.hint (x % s.words)))))
    ⊎ (after_at s e (Leaves x js (Peeking (suc k)))
    ≡ Some (moved s (seat_of e) (Leaves x js (Peeking k))))
own_loading s (Peek a) x js k lt h = inl refl
own_loading s (Glance a) x js k lt h = inr refl
own_loading s (LookBehind a) x js k lt h =
    inr (ap (λ (b : Bool). Some (moved s a (if b then Leaves x js (Peeking k) else Wakes js)))
    (le-leb (suc x) s.next lt))
own_loading s _ x js k lt h = absurd (cc h)

-- the ticket of a seat that may sleep was drawn
is_drawn : (s : Crowd) (i t : ℕ) → Sound s → MaySleep i t s → t < s.next
is_drawn s i t g h = by_stage h.0
  where
    by_stage : (s.phase i ≡ Has t Parking) ⊎ (s.phase i ≡ Has t Asleep) → t < s.next
    by_stage (inl at) = (at_place s i t g Parking (Posted t) at h.2).0
    by_stage (inr at) = (at_place s i t g Asleep (Posted t) at h.2).0

-- the hint of a seat that may sleep stands
stands : (s : Crowd) (i t : ℕ) → Sound s → MaySleep i t s → Stands s t i
stands s i t g h = by_stage h.0
  where
    by_stage : (s.phase i ≡ Has t Parking) ⊎ (s.phase i ≡ Has t Asleep) → Stands s t i
    by_stage (inl at) = (at_place s i t g Parking (Posted t) at h.2).3.2.0
    by_stage (inr at) = (at_place s i t g Asleep (Posted t) at h.2).3.2.0

found : (s : Crowd) (i t : ℕ) (js : List ℕ) → Stands s t i
    → hinted t js (s.hint (t % s.words)) ≡ Leaves t js (Claiming i)
found s i t js st = ap (hinted t js) st
    ∙ ap (λ b. if b then Leaves t js (Claiming i) else Wakes js) (eq-eqb t t refl)

-- where the next event looks for the hint
after_peek : (x : Crowd) (e : Event) (h i t n : ℕ) (js : List ℕ) → Sound x
    → IsComing h (Leaves t js (Peeking n)) i t x → seat_of e ≡ h
    → after_at x e (Leaves t js (Peeking n))
    ≡ Some (moved x (seat_of e) (hinted t js (x.hint (t % x.words))))
    → Rises 11 (happens x e)
after_peek x e h i t n js y at mine is =
    let z : Crowd = moved x (seat_of e) (hinted t js (x.hint (t % x.words))) in
    leads 11 x z e y (event_at x e h (Leaves t js (Peeking n)) at.0 mine ∙ is)
    (λ good. from_claiming z h i t js good (
      put_at x.phase (seat_of e) h (hinted t js (x.hint (t % x.words))) (sym mine)
          ∙ found x i t js (stands x i t y at.1),
      still_sleeps x z i t at.1
          (put_else x.phase (seat_of e) i (hinted t js (x.hint (t % x.words)))
          (λ m. apart x h i t t js (Peeking n) at (m ∙ mine))) refl refl,
    ))

from_peeking : (k : ℕ) (s : Crowd) (h i t : ℕ) (js : List ℕ) → Sound s
    → IsComing h (Leaves t js (Peeking k)) i t s → Rises (12 + k) s
from_peeking zero s h i t js g k = more 12 (12 + zero) s (omega arith)
    (rises 11 h (IsComing h (Leaves t js (Peeking zero)) i t)
    (coming_way 11 h i t (Leaves t js (Peeking zero)) (omega arith) refl
    (λ x e y at mine can same. after_peek x e h i t zero js y at mine
    (own_peeking x e t js (can_at x e h (Leaves t js (Peeking zero)) at.0 mine can)))) s g k)
from_peeking (suc n) s h i t js g k = more (suc (12 + n)) (12 + suc n) s (omega arith)
    (rises (12 + n) h (IsComing h (Leaves t js (Peeking (suc n))) i t)
    (coming_way (12 + n) h i t (Leaves t js (Peeking (suc n))) (omega arith) refl
    (λ x e y at mine can same. ⊎_elim
    (λ is. more 11 (12 + n) (happens x e) (omega arith)
    (after_peek x e h i t (suc n) js y at mine is))
    (λ is. let z : Crowd = moved x (seat_of e) (Leaves t js (Peeking n)) in
    leads (12 + n) x z e y
    (event_at x e h (Leaves t js (Peeking (suc n))) at.0 mine ∙ is)
    (λ good. from_peeking n z h i t js good (
      put_at x.phase (seat_of e) h (Leaves t js (Peeking n)) (sym mine),
      still_sleeps x z i t at.1
          (put_else x.phase (seat_of e) i (Leaves t js (Peeking n))
          (λ m. apart x h i t t js (Peeking (suc n)) at (m ∙ mine))) refl refl,
    )))
    (own_loading x e t js n (is_drawn x i t y at.1)
    (can_at x e h (Leaves t js (Peeking (suc n))) at.0 mine can)))) s g k)

-- the state where the seat a has given back the seat j, of the ticket x
abbrev gave : Crowd → ℕ → ℕ → ℕ → List ℕ → Crowd
gave s a x j ks = placed s a (Leaves (x + 1) ks (Peeking 0)) j (Done x a)

own_giving : (s : Crowd) (e : Event) (x : ℕ) (js : List ℕ) (j : ℕ)
    → is_some (after_at s e (Leaves x js (Giving j zero))) ≡ true
    → (ks : List ℕ)
    × (after_at s e (Leaves x js (Giving j zero)) ≡ Some (gave s (seat_of e) x j ks))
own_giving s (Give a ks) x js j h = (ks, passed (are_in (j ∷ js) ks) (gave s a x j ks) h)
own_giving s _ x js j h = absurd (cc h)

own_giving_later : (s : Crowd) (e : Event) (x : ℕ) (js : List ℕ) (j k : ℕ) → x + 1 < s.next
    → is_some (after_at s e (Leaves x js (Giving j (suc k)))) ≡ true
    → ((ks : List ℕ)
    × (after_at s e (Leaves x js (Giving j (suc k))) ≡ Some (gave s (seat_of e) x j ks)))
    ⊎ (after_at s e (Leaves x js (Giving j (suc k)))
    ≡ Some (moved s (seat_of e) (Leaves x js (Giving j k))))
own_giving_later s (Give a ks) x js j k lt h =
    inl (ks, passed (are_in (j ∷ js) ks) (gave s a x j ks) h)
own_giving_later s (Glance a) x js j k lt h = inr refl
own_giving_later s (LookBehind a) x js j k lt h =
    inr (ap (λ (b : Bool). Some (moved s a (Leaves x js (if b then Giving j k else GivingLast j))))
    (le-leb (suc (x + 1)) s.next lt))
own_giving_later s _ x js j k lt h = absurd (cc h)

-- where the next event gives the seat back
after_give : (y : Crowd) (e : Event) (h i t x : ℕ) (js : List ℕ) (j n : ℕ) → Sound y → x + 1 ≡ t
    → IsComing h (Leaves x js (Giving j n)) i t y → seat_of e ≡ h
    → (ks : List ℕ) × (after_at y e (Leaves x js (Giving j n)) ≡ Some (gave y (seat_of e) x j ks))
    → Rises 12 (happens y e)
after_give y e h i t x js j n good after_it at mine own =
    let z : Crowd = gave y (seat_of e) x j own.0 in
    leads 12 y z e good (event_at y e h (Leaves x js (Giving j n)) at.0 mine ∙ own.1)
    (λ fine. more (12 + zero) 12 z (omega arith) (from_peeking zero z h i t own.0 fine (
      put_at y.phase (seat_of e) h (Leaves (x + 1) own.0 (Peeking 0)) (sym mine)
          ∙ ap (λ (m : ℕ). Leaves m own.0 (Peeking 0)) after_it,
      still_sleeps y z i t at.1
          (put_else y.phase (seat_of e) i (Leaves (x + 1) own.0 (Peeking 0))
          (λ m. apart y h i t x js (Giving j n) at (m ∙ mine))) refl
          (put_else y.place j i (Done x (seat_of e)) not_held),
    )))
  where
    posted : (u v b : ℕ) → Posted u ≡ Claimed v b → ⊥
    posted u v b m = cc m

    not_held : i ≢ j
    not_held m = posted t x h (sym at.1.2 ∙ ap y.place m
        ∙ (at_errand y h good x js (Giving j n) at.0).1.0)

from_giving : (k : ℕ) (s : Crowd) (h i t x : ℕ) (js : List ℕ) (j : ℕ) → Sound s → x + 1 ≡ t
    → IsComing h (Leaves x js (Giving j k)) i t s → Rises (13 + k) s
from_giving zero s h i t x js j g after_it k = more 13 (13 + zero) s (omega arith)
    (rises 12 h (IsComing h (Leaves x js (Giving j zero)) i t)
    (coming_way 12 h i t (Leaves x js (Giving j zero)) (omega arith) refl
    (λ y e good at mine can same. after_give y e h i t x js j zero good after_it at mine
    (own_giving y e x js j (can_at y e h (Leaves x js (Giving j zero)) at.0 mine can)))) s g k)
from_giving (suc n) s h i t x js j g after_it k = more (suc (13 + n)) (13 + suc n) s (omega arith)
    (rises (13 + n) h (IsComing h (Leaves x js (Giving j (suc n))) i t)
    (coming_way (13 + n) h i t (Leaves x js (Giving j (suc n))) (omega arith) refl
    (λ y e good at mine can same. ⊎_elim
    (λ own. more 12 (13 + n) (happens y e) (omega arith)
    (after_give y e h i t x js j (suc n) good after_it at mine own))
    (λ is. let z : Crowd = moved y (seat_of e) (Leaves x js (Giving j n)) in
    leads (13 + n) y z e good
    (event_at y e h (Leaves x js (Giving j (suc n))) at.0 mine ∙ is)
    (λ fine. from_giving n z h i t x js j fine after_it (
      put_at y.phase (seat_of e) h (Leaves x js (Giving j n)) (sym mine),
      still_sleeps y z i t at.1
          (put_else y.phase (seat_of e) i (Leaves x js (Giving j n))
          (λ m. apart y h i t x js (Giving j (suc n)) at (m ∙ mine))) refl refl,
    )))
    (own_giving_later y e x js j n
    (let lt = is_drawn y i t good at.1 in omega arith)
    (can_at y e h (Leaves x js (Giving j (suc n))) at.0 mine can)))) s g k)

-- someone comes for a seat that may sleep
from_comes : (s : Crowd) (h i t : ℕ) (p : Phase) → Sound s → s.phase h ≡ p → MaySleep i t s
    → Comes p t i → Rises 17 s
from_comes s h i t (Leaves x js (Peeking k)) g at m c =
    let few = (at_errand s h g x js (Peeking k) at).1.1 in
    more (12 + k) 17 s (omega arith)
    (from_peeking k s h i t js g (at ∙ ap (λ (n : ℕ). Leaves n js (Peeking k)) c, m))
from_comes s h i t (Leaves x js (Claiming j)) g at m c = more 11 17 s (omega arith)
    (from_claiming s h i t js g (
      at ∙ ap (λ (n : ℕ). Leaves n js (Claiming j)) c.0
          ∙ ap (λ (n : ℕ). Leaves t js (Claiming n)) c.1,
      m,
    ))
from_comes s h i t (Leaves x js (Giving j k)) g at m c =
    let few = (at_errand s h g x js (Giving j k) at).1.1 in
    more (13 + k) 17 s (omega arith) (from_giving k s h i t x js j g c (at, m))
from_comes s h i t _ g at m c = absurd c

-- a seat that may be lent, by the word of its place
by_place : (s : Crowd) (i t n : ℕ) (w : Stage) → 7 ≤ n → Sound s → s.phase i ≡ Has t w
    → s.serving ≡ t → (HomeAt w s.serving t → ⊥) → (s.place i ≡ Posted t → Rises n s)
    → (q : Place) → s.place i ≡ q → Rises n s
by_place s i t n w le g at v home posted Away had =
    absurd (home ((at_place s i t g w Away at had).3))
by_place s i t n w le g at v home posted (Posted u) had =
    posted (had ∙ ap Posted ((at_place s i t g w (Posted u) at had).3.0))
by_place s i t n w le g at v home posted (Claimed u h) had =
    more 7 n s le (from_claimed s i t u h w g at v had)
by_place s i t n w le g at v home posted (Done u h) had =
    absurd (let lt = (at_place s i t g w (Done u h) at had).3.1 in omega arith)
by_place s i t n w le g at v home posted (Back u h) had =
    more 6 n s (omega arith) (from_back s i t u h w g at v had)

from_reading : (s : Crowd) (i t : ℕ) → Sound s → s.phase i ≡ Has t Reading → s.serving ≡ t
    → Rises 10 s
from_reading s i t g at v = by_place s i t 10 Reading (omega arith) g at v (λ h. h)
    (λ had. reading_posted s i t g (at, v, had)) (s.place i) refl

own_hinting : (s : Crowd) (e : Event) (t : ℕ) → is_some (after_at s e (Has t Hinting)) ≡ true
    → after_at s e (Has t Hinting) ≡ Some (record s {
      phase = put s.phase (seat_of e) (Has t Reading);
      hint = put s.hint (t % s.words) (Some (record { ticket = t; seat = seat_of e }));
    })
own_hinting s (StoreHint a) t h = refl
own_hinting s _ t h = absurd (cc h)

from_hinting : (s : Crowd) (i t : ℕ) → Sound s → IsAt i (Has t Hinting) t s → Rises 11 s
from_hinting s i t g h = rises 10 i (IsAt i (Has t Hinting) t) (alone 10 i t (Has t Hinting) refl
    (λ x e y at mine can same.
    let z : Crowd = record x {
      phase = put x.phase (seat_of e) (Has t Reading);
      hint = put x.hint (t % x.words) (Some (record { ticket = t; seat = seat_of e }));
    } in
    leads 10 x z e y
    (event_at x e i (Has t Hinting) at.0 mine
    ∙ own_hinting x e t (can_at x e i (Has t Hinting) at.0 mine can))
    (λ good. from_reading z i t good
    (put_at x.phase (seat_of e) i (Has t Reading) (sym mine)) at.1))) s g h

own_drawn : (s : Crowd) (e : Event) (t : ℕ) → s.serving ≡ t
    → is_some (after_at s e (Has t Drawn)) ≡ true
    → (after_at s e (Has t Drawn) ≡ Some (moved s (seat_of e) (Has t Entering)))
    ⊎ (after_at s e (Has t Drawn)
    ≡ Some (placed s (seat_of e) (Has t Hinting) (seat_of e) (Posted t)))
own_drawn s (Look a) t v h = inl
    (ap (λ b. Some (moved s a (Has t (if b then Entering else Drawn))))
    (eq-eqb t s.serving (sym v)))
own_drawn s (Lend a) t v h = inr refl
own_drawn s _ t v h = absurd (cc h)

from_drawn : (s : Crowd) (i t : ℕ) → Sound s → IsAt i (Has t Drawn) t s → Rises 12 s
from_drawn s i t g h = rises 11 i (IsAt i (Has t Drawn) t) (alone 11 i t (Has t Drawn) refl
    (λ x e y at mine can same. ⊎_elim
    (λ is. leads 11 x (moved x (seat_of e) (Has t Entering)) e y
    (event_at x e i (Has t Drawn) at.0 mine ∙ is)
    (λ good. more 2 11 (moved x (seat_of e) (Has t Entering)) (omega arith)
    (from_entering (moved x (seat_of e) (Has t Entering)) i t good
    (put_at x.phase (seat_of e) i (Has t Entering) (sym mine), at.1))))
    (λ is. leads 11 x (placed x (seat_of e) (Has t Hinting) (seat_of e) (Posted t)) e y
    (event_at x e i (Has t Drawn) at.0 mine ∙ is)
    (λ good. from_hinting (placed x (seat_of e) (Has t Hinting) (seat_of e) (Posted t)) i t good
    (put_at x.phase (seat_of e) i (Has t Hinting) (sym mine), at.1)))
    (own_drawn x e t at.1 (can_at x e i (Has t Drawn) at.0 mine can)))) s g h

-- the seat of the served ticket, wherever it is
from_owner : (s : Crowd) (i t : ℕ) (w : Stage) → Sound s → s.phase i ≡ Has t w → s.serving ≡ t
    → Rises 17 s
from_owner s i t Drawn g at v = more 12 17 s (omega arith) (from_drawn s i t g (at, v))
from_owner s i t Hinting g at v = more 11 17 s (omega arith) (from_hinting s i t g (at, v))
from_owner s i t Reading g at v = more 10 17 s (omega arith) (from_reading s i t g at v)
from_owner s i t Looking g at v = by_place s i t 17 Looking (omega arith) g at v (λ h. h)
    (λ had. more 9 17 s (omega arith) (looking_posted s i t g (at, v, had))) (s.place i) refl
from_owner s i t Retracting g at v = by_place s i t 17 Retracting (omega arith) g at v (λ h. h)
    (λ had. more 8 17 s (omega arith) (retracting_posted s i t g (at, v, had))) (s.place i) refl
from_owner s i t Parking g at v = by_place s i t 17 Parking (omega arith) g at v (λ h. h)
    (λ had. let one = (at_place s i t g Parking (Posted t) at had).3.2.1 (sym v) in
    from_comes s one.0 i t (s.phase one.0) g refl (inl at, v, had) one.1) (s.place i) refl
from_owner s i t ParkingHeld g at v = by_place s i t 17 ParkingHeld (omega arith) g at v (λ h. h)
    (λ had. absurd ((at_place s i t g ParkingHeld (Posted t) at had).3.2)) (s.place i) refl
from_owner s i t Asleep g at v = by_place s i t 17 Asleep (omega arith) g at v (λ h. h)
    (λ had. let one = (at_place s i t g Asleep (Posted t) at had).3.2.1 (sym v) in
    from_comes s one.0 i t (s.phase one.0) g refl (inr at, v, had) one.1) (s.place i) refl
from_owner s i t Fetching g at v = by_place s i t 17 Fetching (omega arith) g at v (λ h. h)
    (λ had. absurd ((at_place s i t g Fetching (Posted t) at had).3.2)) (s.place i) refl
from_owner s i t Entering g at v = more 2 17 s (omega arith) (from_entering s i t g (at, v))
from_owner s i t Inside g at v = more 1 17 s (omega arith) (from_inside s i t g (at, v))

pub seventeen_rounds : (s : Crowd) → Sound s → s.serving < s.next → Rises 17 s
seventeen_rounds s g lt = let k = g.held s.serving (omega arith) lt in
    from_owner s (s.owner s.serving) s.serving k.0 g k.1 refl

-- so many rounds, and the others
first_rounds : (n : ℕ) (s : Crowd) (rounds : List (List Event)) → n ≤ length rounds
    → AreRounds s rounds
    → (a : List (List Event)) × (b : List (List Event)) × (length a ≡ n)
    × (n + length b ≡ length rounds) × AreRounds s a × AreRounds (run_rounds s a) b
    × (run_rounds s rounds ≡ run_rounds (run_rounds s a) b)
first_rounds zero s rounds le are = ([], rounds, refl, omega arith, tt, are, refl)
first_rounds (suc n) s [] le are = absurd (omega arith)
first_rounds (suc n) s (r ∷ rs) le are =
    let f = first_rounds n (run s r) rs (omega arith) are.1 in
    let long = f.2 in let all = f.3 in
    (r ∷ f.0, f.1, omega arith, omega arith, (are.0, f.4), f.5, f.6)

in_time : (n : ℕ) (s : Crowd) (rounds : List (List Event)) (ticket : ℕ) → Sound s
    → ticket < s.next → ticket + 1 - s.serving ≤ n → 17 * n ≤ length rounds → AreRounds s rounds
    → ticket < (run_rounds s rounds).serving
in_time zero s rounds ticket g lt near few are = let le = rounds_le s rounds g in omega arith
in_time (suc n) s rounds ticket g lt near few are = dite (dec_le (suc ticket) s.serving)
    (λ (past : ticket < s.serving). let le = rounds_le s rounds g in omega arith)
    (λ ahead. let f = first_rounds 17 s rounds (omega arith) are in
    let long = f.2 in let all = f.3 in
    let up : s.serving < (run_rounds s f.0).serving =
    seventeen_rounds s g (omega arith) [] f.0 (omega arith) f.4 in
    let more_drawn = rounds_drawn s f.0 g in
    let k = in_time n (run_rounds s f.0) f.1 ticket (rounds_sound s f.0 g) (omega arith)
    (omega arith)
    (omega arith) f.5 in
    subst (λ (x : Crowd). ticket < x.serving) (sym f.6) k)

pub seventeen_rounds_raise_serving : SeventeenRoundsRaiseServing
seventeen_rounds_raise_serving seats words events rounds le lt few are =
    seventeen_rounds (run (start seats words) events)
    (run_sound (start seats words) events (start_sound seats words le)) lt [] rounds few are

pub drawn_tickets_are_left : DrawnTicketsAreLeft
drawn_tickets_are_left seats words events rounds ticket le lt few are =
    in_time (ticket + 1 - (run (start seats words) events).serving) (run (start seats words) events)
    rounds ticket (run_sound (start seats words) events (start_sound seats words le)) lt
    (omega arith)
    few are
