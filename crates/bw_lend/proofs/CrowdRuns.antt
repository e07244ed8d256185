-- Every event keeps the invariant, so it holds after every list of events.
use Rattle.std.proofs.Common.{◌≡◌, ◌≢◌, ℕ, suc, ◌+◌, ◌%◌, ◌<◌, ◌≤◌, List, [], ◌∷◌}
use Rattle.std.proofs.Common.{Some, None, true, false, refl, sym, ap}
use Rattle.std.proofs.Common.{◌∙◌, arith, ⊎_elim, nat_lt}
use Rattle.std.proofs.lemmas.Bool.Decides.{leb_tells}
use Rattle.bw_lend.specs.Crowd.{Done, Back}
use Rattle.bw_lend.specs.Crowd.{are_in}
use Rattle.bw_lend.specs.Crowd.{Drawn, Hinting, Reading, Looking, Retracting, Parking}
use Rattle.bw_lend.specs.Crowd.{ParkingHeld, Asleep, Fetching, Entering, Inside}
use Rattle.bw_lend.specs.Crowd.{Errand, Peeking, Claiming, EnteringFor, Helping, Giving}
use Rattle.bw_lend.specs.Crowd.{GivingLast, Returning, LookBehind, look_behind_by}
use Rattle.bw_lend.specs.Crowd.{Phase, Has, Leaves, Wakes, Claimed}
use Rattle.bw_lend.specs.Crowd.{Crowd, put, moved, placed, is_posted_with, woken}
use Rattle.bw_lend.specs.Crowd.{Event, Take, Look, Lend, StoreHint, Read, Retract, Park}
use Rattle.bw_lend.specs.Crowd.{SpuriousWake, Fetch, Leave, Glance, Peek, ClaimToHelp}
use Rattle.bw_lend.specs.Crowd.{ClaimToReturn, Give, Wake, or_same, happens, run, start}
use Rattle.bw_lend.specs.Crowd.{take_by, look_by, lend_by, store_hint_by, read_by, retract_by}
use Rattle.bw_lend.specs.Crowd.{park_by, spurious_wake_by, fetch_by, leave_by, glance_by, peek_by}
use Rattle.bw_lend.specs.Crowd.{claim_by, give_by, wake_by}
use Rattle.bw_lend.proofs.CrowdInvariant.{Sound, OkErrand}
use Rattle.bw_lend.specs.CrowdLaws.{Holds}
use Rattle.bw_lend.proofs.CrowdKept.{put_here, put_else}
use Rattle.bw_lend.proofs.CrowdWalks.{by_test, look_drawn, look_entering, look_lent, wake_up, read}
use Rattle.bw_lend.proofs.CrowdWalks.{park_posted}
use Rattle.bw_lend.proofs.CrowdWalks.{park_held, lend, retract, fetch}
use Rattle.bw_lend.proofs.CrowdErrands.{look_for, glance_peeking, glance_giving, peek, claim_lost}
use Rattle.bw_lend.proofs.CrowdErrands.{wake_next, behind_peeking, behind_giving}
use Rattle.bw_lend.proofs.CrowdHands.{claim_won, give, give_last, return_back}
use Rattle.bw_lend.proofs.CrowdLeaves.{take_sound, store_hint_sound, leave_own, leave_helping}

less : (a b : ℕ) → nat_lt a b ≡ true → a < b
less a b h = ⊎_elim (λ (k : (nat_lt a b ≡ true) × (suc a ≤ b)). k.1)
    (λ (k : (nat_lt a b ≡ false) × (b < suc a)). absurd (cc (sym h ∙ k.0))) (leb_tells (suc a) b)

module _ (s : Crowd) (a : ℕ) (y : Sound s) where
  by_take : (p : Phase) → s.phase a ≡ p → Sound (or_same s (take_by s a p))
  by_take (Wakes []) e = by_test (λ o. Sound (or_same s o)) (nat_lt a s.seats) (Some (record s {
    next = s.next + 1;
    owner = put s.owner s.next a;
    phase = put s.phase a (Has s.next Drawn);
  })) None (λ lt. take_sound s a y e (less a s.seats lt)) (λ n. y)
  by_take _ e = y

  by_look : (p : Phase) → s.phase a ≡ p → Sound (or_same s (look_by s a p))
  by_look (Has t Drawn) e = look_drawn s a t y e
  by_look (Has t Entering) e = look_entering s a t y e
  by_look (Leaves x js (EnteringFor j)) e = look_for s a y x js j e
  by_look (Has t Looking) e = look_lent s a t y e
  by_look _ e = y

  by_lend : (p : Phase) → s.phase a ≡ p → Sound (or_same s (lend_by s a p))
  by_lend (Has t Drawn) e = lend s a t y e
  by_lend _ e = y

  by_store : (p : Phase) → s.phase a ≡ p → Sound (or_same s (store_hint_by s a p))
  by_store (Has t Hinting) e = store_hint_sound s a t y e
  by_store _ e = y

  by_read : (p : Phase) → s.phase a ≡ p → Sound (or_same s (read_by s a p))
  by_read (Has t Reading) e = read s a t y e
  by_read _ e = y

  by_retract : (p : Phase) → s.phase a ≡ p → Sound (or_same s (retract_by s a p))
  by_retract (Has t Retracting) e = retract s a t y e (s.place a) refl
  by_retract _ e = y

  by_park : (p : Phase) → s.phase a ≡ p → Sound (or_same s (park_by s a p))
  by_park (Has t Parking) e = park_posted s a t y e
  by_park (Has t ParkingHeld) e = park_held s a t y e
  by_park _ e = y

  by_spurious : (p : Phase) → s.phase a ≡ p → Sound (or_same s (spurious_wake_by s a p))
  by_spurious (Has t Asleep) e = wake_up s a t y e
  by_spurious _ e = y

  by_fetch : (p : Phase) → s.phase a ≡ p → Sound (or_same s (fetch_by s a p))
  by_fetch (Has t Fetching) e = fetch s a t y e (s.place a) refl
  by_fetch _ e = y

  by_leave : (p : Phase) → s.phase a ≡ p → Sound (or_same s (leave_by s a p))
  by_leave (Has t Inside) e = leave_own s a y t e
  by_leave (Leaves x js (Helping j)) e = leave_helping s a y x js j e
  by_leave _ e = y

  by_glance : (p : Phase) → s.phase a ≡ p → Sound (or_same s (glance_by s a p))
  by_glance (Leaves x js (Peeking (suc k))) e = glance_peeking s a y x js k e
  by_glance (Leaves x js (Giving j (suc k))) e = glance_giving s a y x js j k e
  by_glance _ e = y

  by_behind : (p : Phase) → s.phase a ≡ p → Sound (or_same s (look_behind_by s a p))
  by_behind (Leaves x js (Peeking (suc k))) e = behind_peeking s a y x js k e
  by_behind (Leaves x js (Giving j (suc k))) e = behind_giving s a y x js j k e
  by_behind _ e = y

  by_peek : (p : Phase) → s.phase a ≡ p → Sound (or_same s (peek_by s a p))
  by_peek (Leaves x js (Peeking k)) e = peek s a y x js k e (s.hint (x % s.words)) refl
  by_peek _ e = y

  by_claim : (k : ℕ → Errand)
      → ((x : ℕ) (js : List ℕ) (j v t i : ℕ) → x ≡ t → j ≡ i → t ≡ v
      → Holds v (Leaves x js (k j)) t i)
      → ((x j : ℕ) (z : Crowd) → z.place j ≡ Claimed x a → OkErrand z a x (k j))
      → (p : Phase) → s.phase a ≡ p → Sound (or_same s (claim_by k s a p))
  by_claim k holds ok (Leaves x js (Claiming j)) e =
      by_test Sound (is_posted_with x (s.place j))
      (placed s a (Leaves x js (k j)) j (Claimed x a)) (moved s a (Wakes js))
      (claim_won s a y k x js j e (holds x js j) (ok x j)) (claim_lost s a y x js j e)
  by_claim k holds ok _ e = y

  by_give : (ks : List ℕ) (p : Phase) → s.phase a ≡ p → Sound (or_same s (give_by s a ks p))
  by_give ks (Leaves x js (Giving j k)) e =
      by_test (λ o. Sound (or_same s o)) (are_in (j ∷ js) ks)
      (Some (placed s a (Leaves (x + 1) ks (Peeking 0)) j (Done x a))) None
      (λ all. give s a y x js ks j k e all) (λ n. y)
  by_give ks (Leaves x js (GivingLast j)) e =
      by_test (λ o. Sound (or_same s o)) (are_in (j ∷ js) ks)
      (Some (placed s a (Wakes ks) j (Done x a))) None
      (λ all. give_last s a y x js ks j e all) (λ n. y)
  by_give ks (Leaves x js (Returning j)) e =
      by_test (λ o. Sound (or_same s o)) (are_in js ks)
      (Some (placed s a (Wakes (j ∷ ks)) j (Back x a))) None
      (λ all. return_back s a y x js ks j e all) (λ n. y)
  by_give ks _ e = y

  wake_asleep : (j t : ℕ) (js : List ℕ) → s.phase a ≡ Wakes (j ∷ js) → s.phase j ≡ Has t Asleep
      → Sound (record s { phase = put (put s.phase j (Has t Reading)) a (Wakes js) })
  wake_asleep j t js e asleep =
      wake_next (moved s j (Has t Reading)) a (wake_up s j t y asleep) j js
      (put_else s.phase j a (Has t Reading) (λ m. apart m) ∙ e)
      (λ u m. awake u (sym (put_here s.phase j (Has t Reading)) ∙ m))
    where
      apart : a ≢ j
      apart m = let k : Wakes (j ∷ js) ≡ Has t Asleep = sym e ∙ ap s.phase m ∙ asleep in cc k

      awake : (u : ℕ) → Has t Reading ≡ Has u Asleep → ⊥
      awake u m = cc m

  by_woken : (j : ℕ) (js : List ℕ) (q : Phase) → s.phase a ≡ Wakes (j ∷ js) → s.phase j ≡ q
      → Sound (woken s a js j q)
  by_woken j js (Has t Asleep) e is = wake_asleep j t js e is
  by_woken j js (Has t Drawn) e is = wake_next s a y j js e (λ u m. cc (sym is ∙ m))
  by_woken j js (Has t Hinting) e is = wake_next s a y j js e (λ u m. cc (sym is ∙ m))
  by_woken j js (Has t Reading) e is = wake_next s a y j js e (λ u m. cc (sym is ∙ m))
  by_woken j js (Has t Looking) e is = wake_next s a y j js e (λ u m. cc (sym is ∙ m))
  by_woken j js (Has t Retracting) e is = wake_next s a y j js e (λ u m. cc (sym is ∙ m))
  by_woken j js (Has t Parking) e is = wake_next s a y j js e (λ u m. cc (sym is ∙ m))
  by_woken j js (Has t ParkingHeld) e is = wake_next s a y j js e (λ u m. cc (sym is ∙ m))
  by_woken j js (Has t Fetching) e is = wake_next s a y j js e (λ u m. cc (sym is ∙ m))
  by_woken j js (Has t Entering) e is = wake_next s a y j js e (λ u m. cc (sym is ∙ m))
  by_woken j js (Has t Inside) e is = wake_next s a y j js e (λ u m. cc (sym is ∙ m))
  by_woken j js (Leaves x ks k) e is = wake_next s a y j js e (λ u m. cc (sym is ∙ m))
  by_woken j js (Wakes ks) e is = wake_next s a y j js e (λ u m. cc (sym is ∙ m))

  by_wake : (p : Phase) → s.phase a ≡ p → Sound (or_same s (wake_by s a p))
  by_wake (Wakes (j ∷ js)) e = by_woken j js (s.phase j) e refl
  by_wake _ e = y

pub happens_sound : (s : Crowd) (e : Event) → Sound s → Sound (happens s e)
happens_sound s (Take a) y = by_take s a y (s.phase a) refl
happens_sound s (Look a) y = by_look s a y (s.phase a) refl
happens_sound s (Lend a) y = by_lend s a y (s.phase a) refl
happens_sound s (StoreHint a) y = by_store s a y (s.phase a) refl
happens_sound s (Read a) y = by_read s a y (s.phase a) refl
happens_sound s (Retract a) y = by_retract s a y (s.phase a) refl
happens_sound s (Park a) y = by_park s a y (s.phase a) refl
happens_sound s (SpuriousWake a) y = by_spurious s a y (s.phase a) refl
happens_sound s (Fetch a) y = by_fetch s a y (s.phase a) refl
happens_sound s (Leave a) y = by_leave s a y (s.phase a) refl
happens_sound s (Glance a) y = by_glance s a y (s.phase a) refl
happens_sound s (LookBehind a) y = by_behind s a y (s.phase a) refl
happens_sound s (Peek a) y = by_peek s a y (s.phase a) refl
happens_sound s (ClaimToHelp a) y = by_claim s a y EnteringFor
    (λ x js j v t i e f g. (e, f, g)) (λ x j z h. h) (s.phase a) refl
happens_sound s (ClaimToReturn a) y = by_claim s a y Returning
    (λ x js j v t i e f g. (e, f, g)) (λ x j z h. h) (s.phase a) refl
happens_sound s (Give a ks) y = by_give s a y ks (s.phase a) refl
happens_sound s (Wake a) y = by_wake s a y (s.phase a) refl

pub run_sound : (s : Crowd) (es : List Event) → Sound s → Sound (run s es)
run_sound s [] y = y
run_sound s (e ∷ es) y = run_sound (happens s e) es (happens_sound s e y)

pub start_sound : (seats words : ℕ) → seats ≤ words → Sound (start seats words)
start_sound seats words le = record {
  drawn = omega arith;
  room = le;
  each = λ i. refl;
  held = λ t ge lt. absurd (omega arith);
  hints = λ b x j e. absurd (cc e);
}
