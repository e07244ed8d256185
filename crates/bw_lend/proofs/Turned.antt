-- Each turn of seats that wait while they are lent is one event of the crowd.
use Rattle.std.proofs.Common.{◌≡◌, ℕ, zero, suc, ◌+◌, ◌*◌, ◌%◌, ◌==◌, ◌≤◌}
use Rattle.std.proofs.Common.{Bool, true, false, List, [], ◌∷◌, Option, Some, None, if◌then◌else◌}
use Rattle.std.proofs.Common.{refl, sym, ap, ◌∙◌, arith, eq-eqb}
use Rattle.std.proofs.Common.{ne_eqb, nat_lt}
use Rattle.bw_lend.specs.Crowd.{Stage, Drawn, Hinting, Reading, Looking, Retracting, Parking}
use Rattle.bw_lend.specs.Crowd.{ParkingHeld, Asleep, Fetching, Entering, Inside}
use Rattle.bw_lend.specs.Crowd.{Errand, Peeking, Claiming, EnteringFor, Helping, Giving}
use Rattle.bw_lend.specs.Crowd.{GivingLast, Returning, LookBehind, look_behind_by}
use Rattle.bw_lend.specs.Crowd.{Phase, Has, Leaves, Wakes, Place, Away, Posted, Claimed, Done, Back}
use Rattle.bw_lend.specs.Crowd.{Crowd, Event, Take, Look, Lend, StoreHint, Read, Retract, Park}
use Rattle.bw_lend.specs.Crowd.{SpuriousWake, Fetch, Leave, Glance, Peek, ClaimToHelp}
use Rattle.bw_lend.specs.Crowd.{ClaimToReturn, Give, Wake, happens, or_same, is_possible}
use Rattle.bw_lend.specs.Crowd.{take_by, look_by, lend_by, store_hint_by, read_by, retract_by}
use Rattle.bw_lend.specs.Crowd.{park_by, spurious_wake_by, fetch_by, leave_by, glance_by, peek_by}
use Rattle.bw_lend.specs.Crowd.{claim_by, give_by, wake_by, woken, own_loads}
use Rattle.bw_lend.specs.Crowd.{put, moved, placed, is_posted_with}
use Rattle.bw_lend.specs.Crowd.{hinted, are_in, Hint}
use Rattle.bw_lend.specs.CrowdLaws.{seat_of}
use Rattle.bw_lend.specs.Waits.{IsOwn, IsPassedOver, after_look, after_read}
use Rattle.bw_lend.specs.Turns.{Hall, Shows, ShowsHint}
use Rattle.bw_lend.specs.Turns.{is_waiting_at, is_waiting, opened}
use Rattle.bw_lend.proofs.CrowdInvariant.{Ok, Sound}
use Rattle.bw_lend.proofs.CrowdKept.{put_here}
use Rattle.bw_lend.proofs.CrowdWalks.{by_test}
use Rattle.bw_lend.proofs.CrowdRuns.{start_sound}

-- what an owner in this phase has read and found, where this is the word of its place
abbrev pub Seen : ℕ → Option ℕ → Option ℕ → Phase → Type 0
Seen word state found (Has t Looking) = (state ≡ Some (t * 8 + 3)) × (found ≡ None)
Seen word state found (Has t Retracting) = state ≡ Some (t * 8 + 3)
Seen word state found (Has t Parking) = state ≡ Some (t * 8 + 3)
Seen word state found (Has t ParkingHeld) = state ≡ Some (t * 8 + 2)
Seen word state found (Has t Fetching) = (state ≡ Some word) × (4 ≤ word % 8)
Seen word state found _ = state ≡ None

-- whether an owner in this phase has read its place
abbrev pub has_read_at : Stage → Bool
has_read_at Reading = false
has_read_at w = is_waiting_at w

abbrev pub has_read : Phase → Bool
has_read (Has t w) = has_read_at w
has_read _ = false

-- what is so between two turns
pub record Meets (h : Hall) : Type 0 where
  pub sound : Sound h.crowd
  pub shows : (j : ℕ) → Shows (h.word j) (h.crowd.place j)
  pub seen_is : (j : ℕ) → Seen (h.word j) (h.state j) (h.found j) (h.crowd.phase j)
  pub hints : (w : ℕ) → ShowsHint (h.hint w) (h.crowd.hint w)

-- the state that a turn of the seat i leads to is that after one event of it
abbrev pub Goes : Hall → Hall → ℕ → Type 0
Goes h k i = (e : Event) × (seat_of e ≡ i) × (is_possible h.crowd e ≡ true)
    × (k.crowd ≡ happens h.crowd e) × Meets k

pub at_start : (seats words : ℕ) → seats ≤ words → Meets (opened seats words)
at_start seats words le = record {
  sound = start_sound seats words le;
  shows = λ j. let one : 1 % 8 ≤ 1 = omega arith in one;
  seen_is = λ j. refl;
  hints = λ w. refl;
}

-- the stages of what was read
pub read_posted : (c : ℕ) (found : Option ℕ) (t : ℕ) → c ≡ 3 → after_read c found t ≡ after_look found t
read_posted c found t e = ap (λ (x : ℕ). after_read x found t) e

pub read_back : (c : ℕ) (found : Option ℕ) (t : ℕ) → 4 ≤ c → after_read c found t ≡ Fetching
read_back zero found t h = absurd (omega arith)
read_back (suc zero) found t h = absurd (omega arith)
read_back (suc (suc zero)) found t h = absurd (omega arith)
read_back (suc (suc (suc zero))) found t h = absurd (omega arith)
read_back (suc (suc (suc (suc n)))) found t h = refl

pub read_held : (c : ℕ) (found : Option ℕ) (t : ℕ) → c ≤ 2 → after_read c found t ≡ ParkingHeld
read_held zero found t h = refl
read_held (suc zero) found t h = refl
read_held (suc (suc zero)) found t h = refl
read_held (suc (suc (suc n))) found t h = absurd (omega arith)

pub look_own : (found : Option ℕ) (t : ℕ) → IsOwn found t → after_look found t ≡ Retracting
look_own None t h = absurd h
look_own (Some v) t h =
    ap (λ (b : Bool). if b then Retracting else Parking) (eq-eqb t v (sym h))

pub look_other : (found : Option ℕ) (t : ℕ) → IsPassedOver found t → after_look found t ≡ Parking
look_other None t h = absurd h
look_other (Some v) t h =
    ap (λ (b : Bool). if b then Retracting else Parking) (ne_eqb t v (λ e. h (sym e)))

-- an owner that has read nothing
pub unread : (word : ℕ) (state found : Option ℕ) (p : Phase) → has_read p ≡ false → state ≡ None
    → Seen word state found p
unread word state found (Has t Drawn) n h = h
unread word state found (Has t Hinting) n h = h
unread word state found (Has t Reading) n h = h
unread word state found (Has t Looking) n h = absurd (cc n)
unread word state found (Has t Retracting) n h = absurd (cc n)
unread word state found (Has t Parking) n h = absurd (cc n)
unread word state found (Has t ParkingHeld) n h = absurd (cc n)
unread word state found (Has t Asleep) n h = h
unread word state found (Has t Fetching) n h = absurd (cc n)
unread word state found (Has t Entering) n h = h
unread word state found (Has t Inside) n h = h
unread word state found (Leaves x js e) n h = h
unread word state found (Wakes js) n h = h

pub was_unread : (word : ℕ) (state found : Option ℕ) (p : Phase) → is_waiting p ≡ false
    → Seen word state found p → (state ≡ None) × (has_read p ≡ false)
was_unread word state found (Has t Drawn) n h = (h, refl)
was_unread word state found (Has t Hinting) n h = (h, refl)
was_unread word state found (Has t Reading) n h = absurd (cc n)
was_unread word state found (Has t Looking) n h = absurd (cc n)
was_unread word state found (Has t Retracting) n h = absurd (cc n)
was_unread word state found (Has t Parking) n h = absurd (cc n)
was_unread word state found (Has t ParkingHeld) n h = absurd (cc n)
was_unread word state found (Has t Asleep) n h = (h, refl)
was_unread word state found (Has t Fetching) n h = absurd (cc n)
was_unread word state found (Has t Entering) n h = (h, refl)
was_unread word state found (Has t Inside) n h = (h, refl)
was_unread word state found (Leaves x js e) n h = (h, refl)
was_unread word state found (Wakes js) n h = (h, refl)

-- whether a seat is back in its place
abbrev pub is_back : Place → Bool
is_back (Done u v) = true
is_back (Back u v) = true
is_back _ = false

-- only an owner that is about to take its finished place depends on the word
pub other_word : (s : Crowd) (j a b : ℕ) (state found : Option ℕ) (p : Phase) (q : Place)
    → Ok s j p q → is_back q ≡ false → Seen a state found p → Seen b state found p
other_word s j a b state found (Has t Drawn) q ok n h = h
other_word s j a b state found (Has t Hinting) q ok n h = h
other_word s j a b state found (Has t Reading) q ok n h = h
other_word s j a b state found (Has t Looking) q ok n h = h
other_word s j a b state found (Has t Retracting) q ok n h = h
other_word s j a b state found (Has t Parking) q ok n h = h
other_word s j a b state found (Has t ParkingHeld) q ok n h = h
other_word s j a b state found (Has t Asleep) q ok n h = h
other_word s j a b state found (Has t Fetching) Away ok n h = absurd ok.3
other_word s j a b state found (Has t Fetching) (Posted u) ok n h = absurd ok.3.2
other_word s j a b state found (Has t Fetching) (Claimed u v) ok n h = absurd ok.3.1
other_word s j a b state found (Has t Fetching) (Done u v) ok n h = absurd (cc n)
other_word s j a b state found (Has t Fetching) (Back u v) ok n h = absurd (cc n)
other_word s j a b state found (Has t Entering) q ok n h = h
other_word s j a b state found (Has t Inside) q ok n h = h
other_word s j a b state found (Leaves x js e) q ok n h = h
other_word s j a b state found (Wakes js) q ok n h = h

not_read : (p : Phase) → is_waiting p ≡ false → has_read p ≡ false
not_read p n = (was_unread 0 None None p n (none p n)).1
  where
    none : (p : Phase) → is_waiting p ≡ false → Seen 0 None None p
    none (Has t Drawn) n = refl
    none (Has t Hinting) n = refl
    none (Has t Reading) n = absurd (cc n)
    none (Has t Looking) n = absurd (cc n)
    none (Has t Retracting) n = absurd (cc n)
    none (Has t Parking) n = absurd (cc n)
    none (Has t ParkingHeld) n = absurd (cc n)
    none (Has t Asleep) n = refl
    none (Has t Fetching) n = absurd (cc n)
    none (Has t Entering) n = refl
    none (Has t Inside) n = refl
    none (Leaves x js e) n = refl
    none (Wakes js) n = refl

hinted_unread : (x : ℕ) (js : List ℕ) (o : Option Hint) → has_read (hinted x js o) ≡ false
hinted_unread x js (Some g) = by_test (λ p. has_read p ≡ false) (g.ticket == x)
    (Leaves x js (Claiming g.seat)) (Wakes js) (λ e. refl) (λ e. refl)
hinted_unread x js None = refl

-- an event of a seat that does not wait lent leads to no stage at which it has read its place
module _ (s : Crowd) (a : ℕ) where
  here : (p : Phase) → has_read p ≡ false → has_read (put s.phase a p a) ≡ false
  here p n = ap has_read (put_here s.phase a p) ∙ n

  stays : (p : Phase) → s.phase a ≡ p → is_waiting p ≡ false → has_read (s.phase a) ≡ false
  stays p e n = ap has_read e ∙ not_read p n

  own_take : (p : Phase) → s.phase a ≡ p → is_waiting p ≡ false
      → has_read ((or_same s (take_by s a p)).phase a) ≡ false
  own_take (Wakes []) e n = by_test (λ o. has_read ((or_same s o).phase a) ≡ false)
      (nat_lt a s.seats) (Some (record s {
        next = s.next + 1;
        owner = put s.owner s.next a;
        phase = put s.phase a (Has s.next Drawn);
      })) None (λ lt. here (Has s.next Drawn) refl) (λ no. stays (Wakes []) e n)
  own_take p e n = stays p e n

  own_look : (p : Phase) → s.phase a ≡ p → is_waiting p ≡ false
      → has_read ((or_same s (look_by s a p)).phase a) ≡ false
  own_look (Has t Drawn) e n = by_test (λ w. has_read ((moved s a (Has t w)).phase a) ≡ false)
      (t == s.serving) Entering Drawn (λ is. here (Has t Entering) refl)
      (λ is. here (Has t Drawn) refl)
  own_look (Has t Entering) e n = by_test (λ w. has_read ((moved s a (Has t w)).phase a) ≡ false)
      (t == s.serving) Inside Entering (λ is. here (Has t Inside) refl)
      (λ is. here (Has t Entering) refl)
  own_look (Leaves x js (EnteringFor j)) e n =
      here (Leaves x js (if x == s.serving then Helping j else EnteringFor j)) refl
  own_look (Has t Looking) e n = absurd (cc n)
  own_look p e n = stays p e n

  own_lend : (p : Phase) → s.phase a ≡ p → is_waiting p ≡ false
      → has_read ((or_same s (lend_by s a p)).phase a) ≡ false
  own_lend (Has t Drawn) e n = here (Has t Hinting) refl
  own_lend p e n = stays p e n

  own_store : (p : Phase) → s.phase a ≡ p → is_waiting p ≡ false
      → has_read ((or_same s (store_hint_by s a p)).phase a) ≡ false
  own_store (Has t Hinting) e n = here (Has t Reading) refl
  own_store p e n = stays p e n

  own_read : (p : Phase) → s.phase a ≡ p → is_waiting p ≡ false
      → has_read ((or_same s (read_by s a p)).phase a) ≡ false
  own_read (Has t Reading) e n = absurd (cc n)
  own_read p e n = stays p e n

  own_retract : (p : Phase) → s.phase a ≡ p → is_waiting p ≡ false
      → has_read ((or_same s (retract_by s a p)).phase a) ≡ false
  own_retract (Has t Retracting) e n = absurd (cc n)
  own_retract p e n = stays p e n

  own_park : (p : Phase) → s.phase a ≡ p → is_waiting p ≡ false
      → has_read ((or_same s (park_by s a p)).phase a) ≡ false
  own_park (Has t Parking) e n = absurd (cc n)
  own_park (Has t ParkingHeld) e n = absurd (cc n)
  own_park p e n = stays p e n

  own_spurious : (p : Phase) → s.phase a ≡ p → is_waiting p ≡ false
      → has_read ((or_same s (spurious_wake_by s a p)).phase a) ≡ false
  own_spurious (Has t Asleep) e n = here (Has t Reading) refl
  own_spurious p e n = stays p e n

  own_fetch : (p : Phase) → s.phase a ≡ p → is_waiting p ≡ false
      → has_read ((or_same s (fetch_by s a p)).phase a) ≡ false
  own_fetch (Has t Fetching) e n = absurd (cc n)
  own_fetch p e n = stays p e n

  own_leave : (p : Phase) → s.phase a ≡ p → is_waiting p ≡ false
      → has_read ((or_same s (leave_by s a p)).phase a) ≡ false
  own_leave (Has t Inside) e n = here (Leaves (t + 1) [] (Peeking own_loads)) refl
  own_leave (Leaves x js (Helping j)) e n = here (Leaves x js (Giving j own_loads)) refl
  own_leave p e n = stays p e n

  own_glance : (p : Phase) → s.phase a ≡ p → is_waiting p ≡ false
      → has_read ((or_same s (glance_by s a p)).phase a) ≡ false
  own_glance (Leaves x js (Peeking (suc k))) e n = here (Leaves x js (Peeking k)) refl
  own_glance (Leaves x js (Giving j (suc k))) e n = here (Leaves x js (Giving j k)) refl
  own_glance p e n = stays p e n

  own_behind : (p : Phase) → s.phase a ≡ p → is_waiting p ≡ false
      → has_read ((or_same s (look_behind_by s a p)).phase a) ≡ false
  own_behind (Leaves x js (Peeking (suc k))) e n =
      by_test (λ q. has_read ((moved s a q).phase a) ≡ false) (nat_lt x s.next)
      (Leaves x js (Peeking k)) (Wakes js) (λ is. here (Leaves x js (Peeking k)) refl)
      (λ is. here (Wakes js) refl)
  own_behind (Leaves x js (Giving j (suc k))) e n =
      here (Leaves x js (if nat_lt (x + 1) s.next then Giving j k else GivingLast j)) refl
  own_behind p e n = stays p e n

  own_peek : (p : Phase) → s.phase a ≡ p → is_waiting p ≡ false
      → has_read ((or_same s (peek_by s a p)).phase a) ≡ false
  own_peek (Leaves x js (Peeking k)) e n = here (hinted x js (s.hint (x % s.words)))
      (hinted_unread x js (s.hint (x % s.words)))
  own_peek p e n = stays p e n

  own_claim : (c : ℕ → Errand) (p : Phase) → s.phase a ≡ p → is_waiting p ≡ false
      → has_read ((or_same s (claim_by c s a p)).phase a) ≡ false
  own_claim c (Leaves x js (Claiming j)) e n =
      by_test (λ (z : Crowd). has_read (z.phase a) ≡ false) (is_posted_with x (s.place j))
      (placed s a (Leaves x js (c j)) j (Claimed x a)) (moved s a (Wakes js))
      (λ is. here (Leaves x js (c j)) refl) (λ is. here (Wakes js) refl)
  own_claim c p e n = stays p e n

  own_give : (ks : List ℕ) (p : Phase) → s.phase a ≡ p → is_waiting p ≡ false
      → has_read ((or_same s (give_by s a ks p)).phase a) ≡ false
  own_give ks (Leaves x js (Giving j k)) e n =
      by_test (λ o. has_read ((or_same s o).phase a) ≡ false) (are_in (j ∷ js) ks)
      (Some (placed s a (Leaves (x + 1) ks (Peeking 0)) j (Done x a))) None
      (λ all. here (Leaves (x + 1) ks (Peeking 0)) refl)
      (λ no. stays (Leaves x js (Giving j k)) e n)
  own_give ks (Leaves x js (GivingLast j)) e n =
      by_test (λ o. has_read ((or_same s o).phase a) ≡ false) (are_in (j ∷ js) ks)
      (Some (placed s a (Wakes ks) j (Done x a))) None
      (λ all. here (Wakes ks) refl)
      (λ no. stays (Leaves x js (GivingLast j)) e n)
  own_give ks (Leaves x js (Returning j)) e n =
      by_test (λ o. has_read ((or_same s o).phase a) ≡ false) (are_in js ks)
      (Some (placed s a (Wakes (j ∷ ks)) j (Back x a))) None
      (λ all. here (Wakes (j ∷ ks)) refl)
      (λ no. stays (Leaves x js (Returning j)) e n)
  own_give ks p e n = stays p e n

  own_woken : (j : ℕ) (js : List ℕ) (q : Phase) → has_read ((woken s a js j q).phase a) ≡ false
  own_woken j js (Has t Asleep) =
      ap has_read (put_here (put s.phase j (Has t Reading)) a (Wakes js))
  own_woken j js q = here (Wakes js) refl

  own_wake : (p : Phase) → s.phase a ≡ p → is_waiting p ≡ false
      → has_read ((or_same s (wake_by s a p)).phase a) ≡ false
  own_wake (Wakes (j ∷ js)) e n = own_woken j js (s.phase j)
  own_wake p e n = stays p e n

pub own_unread : (s : Crowd) (e : Event) → is_waiting (s.phase (seat_of e)) ≡ false
    → has_read ((happens s e).phase (seat_of e)) ≡ false
own_unread s (Take i) n = own_take s i (s.phase i) refl n
own_unread s (Look i) n = own_look s i (s.phase i) refl n
own_unread s (Lend i) n = own_lend s i (s.phase i) refl n
own_unread s (StoreHint i) n = own_store s i (s.phase i) refl n
own_unread s (Read i) n = own_read s i (s.phase i) refl n
own_unread s (Retract i) n = own_retract s i (s.phase i) refl n
own_unread s (Park i) n = own_park s i (s.phase i) refl n
own_unread s (SpuriousWake i) n = own_spurious s i (s.phase i) refl n
own_unread s (Fetch i) n = own_fetch s i (s.phase i) refl n
own_unread s (Leave i) n = own_leave s i (s.phase i) refl n
own_unread s (Glance i) n = own_glance s i (s.phase i) refl n
own_unread s (LookBehind i) n = own_behind s i (s.phase i) refl n
own_unread s (Peek i) n = own_peek s i (s.phase i) refl n
own_unread s (ClaimToHelp i) n = own_claim s i EnteringFor (s.phase i) refl n
own_unread s (ClaimToReturn i) n = own_claim s i Returning (s.phase i) refl n
own_unread s (Give i ks) n = own_give s i ks (s.phase i) refl n
own_unread s (Wake i) n = own_wake s i (s.phase i) refl n
