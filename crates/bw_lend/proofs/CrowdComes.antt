-- The stages of a seat that is lent, from the one where it is claimed back.
use Rattle.std.proofs.Common.{◌≡◌, ◌≢◌, ℕ, ◌≤◌, ◌⊎◌, List, ◌∷◌}
use Rattle.std.proofs.Common.{Some, None, true, false, refl, sym, ap}
use Rattle.std.proofs.Common.{◌∙◌, subst, arith, inl, inr, is_some}
use mathlib.Core.Logic.{dite}
use native.Mathlib.Decide.{ℕ_discrete}
use Rattle.std.proofs.Common.{if◌then◌else◌, Bool}
use Rattle.bw_lend.specs.Crowd.{are_in}
use Rattle.bw_lend.specs.Crowd.{Stage, Drawn, Hinting, Reading, Looking, Retracting, Parking}
use Rattle.bw_lend.specs.Crowd.{ParkingHeld, Asleep, Fetching, Entering, Inside}
use Rattle.bw_lend.specs.Crowd.{EnteringFor, Helping, Giving, GivingLast, Returning}
use Rattle.bw_lend.specs.Crowd.{Phase, Has, Leaves, Wakes, Away, Posted, Claimed, Back}
use Rattle.bw_lend.specs.Crowd.{Crowd, Event}
use Rattle.bw_lend.specs.Crowd.{SpuriousWake}
use Rattle.bw_lend.specs.Crowd.{Give, Wake, is_possible, happens, or_same}
use Rattle.bw_lend.specs.Crowd.{woken, retracted, put, moved, placed}
use Rattle.bw_lend.specs.Crowd.{seen}
use Rattle.bw_lend.specs.CrowdLaws.{seat_of, is_still, WakesFirst, Holds}
use Rattle.bw_lend.proofs.CrowdInvariant.{Ok, Sound}
use Rattle.bw_lend.proofs.CrowdKept.{put_here, put_at, put_else}
use Rattle.bw_lend.proofs.CrowdWalks.{at_place}
use Rattle.bw_lend.proofs.CrowdRuns.{happens_sound}
use Rattle.bw_lend.proofs.CrowdEffects.{after_at, beside, IsOther, IsPlaced}
use Rattle.bw_lend.proofs.CrowdStages.{Rises, more, Way, rises, IsAt, event_at, can_at, stays_up}
use Rattle.bw_lend.proofs.CrowdStages.{alone}
use Rattle.bw_lend.proofs.CrowdRaises.{leads, own_place, own_retracting, own_reading, own_looking}
use Rattle.bw_lend.proofs.CrowdRaises.{reading_back, fetching_back, retracting_back}
use Rattle.bw_lend.proofs.CrowdRaises.{parking_back, held_back, looking_back}
use Rattle.bw_lend.proofs.CrowdRaises.{from_entering, from_entering_for, from_helping}
use Rattle.bw_lend.proofs.CrowdRaises.{IsBack}

-- what any event does to a seat that sleeps
own_asleep : (s : Crowd) (e : Event) (t : ℕ) → (after_at s e (Has t Asleep) ≡ None)
    ⊎ (after_at s e (Has t Asleep) ≡ Some (moved s (seat_of e) (Has t Reading)))
own_asleep s (SpuriousWake a) t = inr refl
own_asleep s _ t = inl refl

abbrev pub Roused : Crowd → ℕ → ℕ → Type 0
Roused x i t = (x.phase i ≡ Has t Asleep) ⊎ (x.phase i ≡ Has t Reading)

pub asleep_next : (s : Crowd) (e : Event) (i t : ℕ) → Sound s → s.phase i ≡ Has t Asleep
    → Roused (happens s e) i t × IsPlaced s (seat_of e) i (happens s e)
asleep_next s e i t g at = dite (ℕ_discrete i (seat_of e)) (λ m. mine m (own_asleep s e t))
    (λ ne. (others ((beside s e i g).0 ne), (beside s e i g).1 ne))
  where
    mine : i ≡ seat_of e → (after_at s e (Has t Asleep) ≡ None)
        ⊎ (after_at s e (Has t Asleep) ≡ Some (moved s (seat_of e) (Has t Reading)))
        → Roused (happens s e) i t × IsPlaced s (seat_of e) i (happens s e)
    mine m (inl none) = let is : happens s e ≡ s =
        ap (or_same s) (event_at s e i (Has t Asleep) at (sym m) ∙ none) in
        (inl (ap (λ (z : Crowd). z.phase i) is ∙ at), inl (ap (λ (z : Crowd). z.place i) is))
    mine m (inr some) = let is : happens s e ≡ moved s (seat_of e) (Has t Reading) =
        ap (or_same s) (event_at s e i (Has t Asleep) at (sym m) ∙ some) in (
          inr (ap (λ (z : Crowd). z.phase i) is ∙ put_at s.phase (seat_of e) i (Has t Reading) m),
          inl (ap (λ (z : Crowd). z.place i) is),
        )

    others : IsOther s i (happens s e) → Roused (happens s e) i t
    others (inl same) = inl (same ∙ at)
    others (inr w) = inr (w.2 ∙ ap (λ u. Has u Reading) (ticket w.0 (sym w.1 ∙ at)))
      where
        ticket : (u : ℕ) → Has u Asleep ≡ Has t Asleep → u ≡ t
        ticket u m = cc m

-- the seat i was given back, and the seat h wakes it next
abbrev IsWoken : ℕ → ℕ → ℕ → List ℕ → Crowd → Type 0
IsWoken i h t js s = (s.phase h ≡ Wakes (i ∷ js)) × IsBack i Asleep t s

own_wakes : (s : Crowd) (e : Event) (i : ℕ) (js : List ℕ)
    → is_some (after_at s e (Wakes (i ∷ js))) ≡ true
    → after_at s e (Wakes (i ∷ js)) ≡ Some (woken s (seat_of e) js i (s.phase i))
own_wakes s (Wake a) i js h = refl
own_wakes s _ i js h = absurd (cc h)

woken_way : (i h t : ℕ) (js : List ℕ) → Way 4 h (IsWoken i h t js)
woken_way i h t js = record {
  up = λ s k. ap is_still k.0;
  own = λ s e g k mine can same.
      let x : Crowd = record s {
        phase = put (put s.phase i (Has t Reading)) (seat_of e) (Wakes js);
      } in
      leads 4 s x e g
      (event_at s e h (Wakes (i ∷ js)) k.0 mine
      ∙ own_wakes s e i js (can_at s e h (Wakes (i ∷ js)) k.0 mine can)
      ∙ ap (λ p. Some (woken s (seat_of e) js i p)) k.1.0)
      (λ z. reading_back x i t z (
        put_else (put s.phase i (Has t Reading)) (seat_of e) i (Wakes js) (apart s e k mine)
            ∙ put_here s.phase i (Has t Reading),
        k.1.1,
        k.1.2,
      ));
  other = λ s e g k ne same. by_next s e g k ne same (asleep_next s e i t g k.1.0).0;
}
  where
    apart : (s : Crowd) (e : Event) → IsWoken i h t js s → seat_of e ≡ h → i ≢ seat_of e
    apart s e k mine m = let x : Has t Asleep ≡ Wakes (i ∷ js) =
        sym k.1.0 ∙ ap s.phase (m ∙ mine) ∙ k.0 in cc x

    back_next : (s : Crowd) (e : Event) → Sound s → IsWoken i h t js s
        → (u : ℕ) × (b : ℕ) × ((happens s e).place i ≡ Back u b)
    back_next s e g k = by_placed (asleep_next s e i t g k.1.0).1
      where
        posted : (u v b : ℕ) → Posted u ≡ Back v b → ⊥
        posted u v b m = cc m

        claimed : (u c v b : ℕ) → Claimed u c ≡ Back v b → ⊥
        claimed u c v b m = cc m

        by_placed : IsPlaced s (seat_of e) i (happens s e)
            → (u : ℕ) × (b : ℕ) × ((happens s e).place i ≡ Back u b)
        by_placed (inl same) = (k.1.2.0, k.1.2.1, same ∙ k.1.2.2)
        by_placed (inr (inl p)) = absurd (posted p.0 k.1.2.0 k.1.2.1 (sym p.2 ∙ k.1.2.2))
        by_placed (inr (inr p)) = absurd (claimed p.0 p.1 k.1.2.0 k.1.2.1 (sym p.2 ∙ k.1.2.2))

    by_next : (s : Crowd) (e : Event) → Sound s → IsWoken i h t js s → h ≢ seat_of e
        → (happens s e).serving ≡ s.serving → Roused (happens s e) i t
        → Rises 4 (happens s e) ⊎ IsWoken i h t js (happens s e)
    by_next s e g k ne same (inl asleep) = inr (
      stays_up s e h (Wakes (i ∷ js)) g refl k.0 ne,
      (asleep, same ∙ k.1.1, back_next s e g k),
    )
    by_next s e g k ne same (inr up) = inl (reading_back (happens s e) i t (happens_sound s e g)
        (up, same ∙ k.1.1, back_next s e g k))

asleep_back : (s : Crowd) (i t u h : ℕ) → Sound s → s.phase i ≡ Has t Asleep → s.serving ≡ t
    → s.place i ≡ Back u h → (p : Phase) → s.phase h ≡ p → WakesFirst p i → Rises 5 s
asleep_back s i t u h g at v had (Wakes (j ∷ js)) is w = rises 4 h (IsWoken i h t js)
    (woken_way i h t js) s g
    (is ∙ ap (λ (k : ℕ). Wakes (k ∷ js)) w, (at, v, (u, h, had)))
asleep_back s i t u h g at v had _ is w = absurd w

-- a seat that was given back without its call made
pub from_back : (s : Crowd) (i t u h : ℕ) (w : Stage) → Sound s → s.phase i ≡ Has t w
    → s.serving ≡ t
    → s.place i ≡ Back u h → Rises 6 s
from_back s i t u h Drawn g at v had = absurd ((at_place s i t g Drawn (Back u h) at had).3.2)
from_back s i t u h Hinting g at v had = absurd ((at_place s i t g Hinting (Back u h) at had).3.2)
from_back s i t u h Reading g at v had =
    more 4 6 s (omega arith) (reading_back s i t g (at, v, (u, h, had)))
from_back s i t u h Looking g at v had = looking_back s i t g (at, v, (u, h, had))
from_back s i t u h Retracting g at v had =
    more 5 6 s (omega arith) (retracting_back s i t g (at, v, (u, h, had)))
from_back s i t u h Parking g at v had =
    more 5 6 s (omega arith) (parking_back s i t g (at, v, (u, h, had)))
from_back s i t u h ParkingHeld g at v had =
    more 5 6 s (omega arith) (held_back s i t g (at, v, (u, h, had)))
from_back s i t u h Asleep g at v had = more 5 6 s (omega arith)
    (asleep_back s i t u h g at v had (s.phase h) refl
    ((at_place s i t g Asleep (Back u h) at had).3.3))
from_back s i t u h Fetching g at v had =
    more 3 6 s (omega arith) (fetching_back s i t g (at, v, (u, h, had)))
from_back s i t u h Entering g at v had = absurd ((at_place s i t g Entering (Back u h) at had).3.2)
from_back s i t u h Inside g at v had = absurd ((at_place s i t g Inside (Back u h) at had).3.2)

from_returned : (s : Crowd) (i u h : ℕ) (p : Phase) → Sound s → s.phase i ≡ p
    → s.place i ≡ Back u h → Ok s i p (Back u h) → Rises 6 s
from_returned s i u h (Has t w) g at had ok = from_back s i t u h w g at (sym ok.3.1) had
from_returned s i u h (Leaves x js e) g at had ok = absurd (cc ok.0)
from_returned s i u h (Wakes js) g at had ok = absurd (cc ok)

-- where a test was passed
pub passed : (b : Bool) (x : Crowd) → is_some (if b then Some x else None) ≡ true
    → (if b then Some x else None) ≡ Some x
passed true x h = refl
passed false x h = absurd (cc h)

own_returning : (s : Crowd) (e : Event) (x : ℕ) (js : List ℕ) (j : ℕ)
    → is_some (after_at s e (Leaves x js (Returning j))) ≡ true
    → (ks : List ℕ) × (after_at s e (Leaves x js (Returning j))
    ≡ Some (placed s (seat_of e) (Wakes (j ∷ ks)) j (Back x (seat_of e))))
own_returning s (Give a ks) x js j h =
    (ks, passed (are_in js ks) (placed s a (Wakes (j ∷ ks)) j (Back x a)) h)
own_returning s _ x js j h = absurd (cc h)

from_returning : (s : Crowd) (h t : ℕ) (js : List ℕ) (j : ℕ) → Sound s
    → IsAt h (Leaves t js (Returning j)) t s → Rises 7 s
from_returning s h t js j g k = rises 6 h (IsAt h (Leaves t js (Returning j)) t)
    (alone 6 h t (Leaves t js (Returning j)) refl
    (λ x e y at mine can same.
    let own = own_returning x e t js j (can_at x e h (Leaves t js (Returning j)) at.0 mine can) in
    let z : Crowd = placed x (seat_of e) (Wakes (j ∷ own.0)) j (Back t (seat_of e)) in
    leads 6 x z e y
    (event_at x e h (Leaves t js (Returning j)) at.0 mine ∙ own.1)
    (λ good. from_returned z j t (seat_of e) (z.phase j) good refl
    (put_here x.place j (Back t (seat_of e)))
    (subst (λ q. Ok z j (z.phase j) q) (put_here x.place j (Back t (seat_of e))) (good.each j)))))
    s g k

-- a seat that is claimed, with the served ticket
held_by : (s : Crowd) (h i t : ℕ) (p : Phase) → Sound s → s.phase h ≡ p → s.serving ≡ t
    → Holds s.serving p t i → Rises 7 s
held_by s h i t (Leaves x js (EnteringFor j)) g at v k = more 2 7 s (omega arith)
    (from_entering_for s h t js j g (at ∙ ap (λ (n : ℕ). Leaves n js (EnteringFor j)) k.0, v))
held_by s h i t (Leaves x js (Helping j)) g at v k = more 1 7 s (omega arith)
    (from_helping s h t js j g (at ∙ ap (λ (n : ℕ). Leaves n js (Helping j)) k.0, v))
held_by s h i t (Leaves x js (Returning j)) g at v k =
    from_returning s h t js j g (at ∙ ap (λ (n : ℕ). Leaves n js (Returning j)) k.0, v)
held_by s h i t (Leaves x js (Giving j n)) g at v k = absurd (let lt = k.2 in omega arith)
held_by s h i t (Leaves x js (GivingLast j)) g at v k = absurd (let lt = k.2 in omega arith)
held_by s h i t _ g at v k = absurd k

pub from_claimed : (s : Crowd) (i t u h : ℕ) (w : Stage) → Sound s → s.phase i ≡ Has t w
    → s.serving ≡ t → s.place i ≡ Claimed u h → Rises 7 s
from_claimed s i t u h w g at v had = held_by s h i t (s.phase h) g refl v
    ((at_place s i t g w (Claimed u h) at had).3.2)

-- The seat i is lent, and nobody has claimed it; its ticket t is served.
abbrev pub IsPosted : ℕ → Stage → ℕ → Crowd → Type 0
IsPosted i w t s = (s.phase i ≡ Has t w) × (s.serving ≡ t) × (s.place i ≡ Posted t)

posted_stage : (n i t : ℕ) (w : Stage) → 7 ≤ n → is_still (Has t w) ≡ false
    → ((s : Crowd) (e : Event) → Sound s → IsPosted i w t s → seat_of e ≡ i
    → is_possible s e ≡ true → Rises n (happens s e)) → Way n i (IsPosted i w t)
posted_stage n i t w le awake own = record {
  up = λ s h. ap is_still h.0 ∙ awake;
  own = λ s e g h mine can same. own s e g h mine can;
  other = λ s e g h ne same. by_placed s e g h
      (stays_up s e i (Has t w) g awake h.0 ne) same ((beside s e i g).1 ne);
}
  where
    claimed : (u c v : ℕ) → Claimed u c ≡ Posted v → ⊥
    claimed u c v m = cc m

    by_placed : (s : Crowd) (e : Event) → Sound s → IsPosted i w t s
        → (happens s e).phase i ≡ Has t w → (happens s e).serving ≡ s.serving
        → IsPlaced s (seat_of e) i (happens s e)
        → Rises n (happens s e) ⊎ IsPosted i w t (happens s e)
    by_placed s e g h at same (inl k) = inr (at, same ∙ h.1, k ∙ h.2)
    by_placed s e g h at same (inr (inl p)) = inl (more 7 n (happens s e) le
        (from_claimed (happens s e) i t p.1 (seat_of e) w (happens_sound s e g) at (same ∙ h.1)
        p.3))
    by_placed s e g h at same (inr (inr p)) = absurd (claimed p.0 p.1 t (sym p.2 ∙ h.2))

pub retracting_posted : (s : Crowd) (i t : ℕ) → Sound s → IsPosted i Retracting t s → Rises 8 s
retracting_posted s i t g h = rises 7 i (IsPosted i Retracting t)
    (posted_stage 7 i t Retracting (omega arith) refl
    (λ x e y at mine can.
    let z : Crowd = placed x (seat_of e) (Has t Entering) (seat_of e) Away in
    leads 7 x z e y
    (event_at x e i (Has t Retracting) at.0 mine
    ∙ own_retracting x e t (can_at x e i (Has t Retracting) at.0 mine can)
    ∙ ap (λ q. Some (retracted x (seat_of e) t q)) (own_place x e i (Posted t) mine at.2))
    (λ good. more 2 7 z (omega arith) (from_entering z i t good
    (put_at x.phase (seat_of e) i (Has t Entering) (sym mine), at.1))))) s g h

pub looking_posted : (s : Crowd) (i t : ℕ) → Sound s → IsPosted i Looking t s → Rises 9 s
looking_posted s i t g h = rises 8 i (IsPosted i Looking t)
    (posted_stage 8 i t Looking (omega arith) refl
    (λ x e y at mine can. leads 8 x (moved x (seat_of e) (Has t Retracting)) e y
    (event_at x e i (Has t Looking) at.0 mine
    ∙ own_looking x e t at.1 (can_at x e i (Has t Looking) at.0 mine can))
    (λ good. retracting_posted (moved x (seat_of e) (Has t Retracting)) i t good
    (put_at x.phase (seat_of e) i (Has t Retracting) (sym mine), at.1, at.2)))) s g h

pub reading_posted : (s : Crowd) (i t : ℕ) → Sound s → IsPosted i Reading t s → Rises 10 s
reading_posted s i t g h = rises 9 i (IsPosted i Reading t)
    (posted_stage 9 i t Reading (omega arith) refl
    (λ x e y at mine can. leads 9 x (moved x (seat_of e) (Has t (seen (x.place (seat_of e))))) e y
    (event_at x e i (Has t Reading) at.0 mine
    ∙ own_reading x e t (can_at x e i (Has t Reading) at.0 mine can))
    (λ good. looking_posted (moved x (seat_of e) (Has t (seen (x.place (seat_of e))))) i t good (
      put_at x.phase (seat_of e) i (Has t (seen (x.place (seat_of e)))) (sym mine)
          ∙ ap (λ q. Has t (seen q)) (own_place x e i (Posted t) mine at.2),
      at.1,
      at.2,
    )))) s g h
