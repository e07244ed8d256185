-- What an event of one seat does to another: it may wake it, or change the word of its place.
use Rattle.std.proofs.Common.{◌≡◌, ◌≢◌, ℕ, suc, ◌+◌, ◌%◌, ◌==◌, ◌<◌, ◌≤◌, ◌⊎◌, List, [], ◌∷◌}
use Rattle.std.proofs.Common.{Option, Some, None, if◌then◌else◌, refl, ap}
use Rattle.std.proofs.Common.{◌∙◌, subst, arith, inl, inr, nat_lt}
use mathlib.Core.Logic.{dite}
use native.Mathlib.Decide.{ℕ_discrete}
use Rattle.bw_lend.specs.Crowd.{are_in}
use Rattle.bw_lend.specs.Crowd.{Drawn, Hinting, Reading, Looking, Retracting, Parking}
use Rattle.bw_lend.specs.Crowd.{ParkingHeld, Asleep, Fetching, Entering, Inside}
use Rattle.bw_lend.specs.Crowd.{Errand, Peeking, Claiming, EnteringFor, Helping, Giving}
use Rattle.bw_lend.specs.Crowd.{GivingLast, Returning, LookBehind, look_behind_by}
use Rattle.bw_lend.specs.Crowd.{Phase, Has, Leaves, Wakes, Place, Away, Posted, Claimed, Done, Back}
use Rattle.bw_lend.specs.Crowd.{Crowd, Event, Take, Look, Lend, StoreHint, Read, Retract, Park}
use Rattle.bw_lend.specs.Crowd.{SpuriousWake, Fetch, Leave, Glance, Peek, ClaimToHelp}
use Rattle.bw_lend.specs.Crowd.{ClaimToReturn, Give, Wake, happens, or_same, after}
use Rattle.bw_lend.specs.Crowd.{take_by, look_by, lend_by, store_hint_by, read_by, retract_by}
use Rattle.bw_lend.specs.Crowd.{park_by, spurious_wake_by, fetch_by, leave_by, glance_by, peek_by}
use Rattle.bw_lend.specs.Crowd.{claim_by, give_by, wake_by, woken, retracted, fetched, own_loads}
use Rattle.bw_lend.specs.Crowd.{put, moved, placed, is_posted_with, is_posted, is_held, seen}
use Rattle.bw_lend.specs.Crowd.{hinted}
use Rattle.bw_lend.specs.CrowdLaws.{seat_of}
use Rattle.bw_lend.proofs.CrowdInvariant.{Ok, Sound}
use Rattle.bw_lend.proofs.CrowdKept.{put_here, put_else}
use Rattle.bw_lend.proofs.CrowdWalks.{by_test}
use Rattle.bw_lend.proofs.CrowdHands.{is_with}

-- the state after an event whose seat is in this phase, or none
abbrev pub after_at : Crowd → Event → Phase → Option Crowd
after_at s (Take i) p = take_by s i p
after_at s (Look i) p = look_by s i p
after_at s (Lend i) p = lend_by s i p
after_at s (StoreHint i) p = store_hint_by s i p
after_at s (Read i) p = read_by s i p
after_at s (Retract i) p = retract_by s i p
after_at s (Park i) p = park_by s i p
after_at s (SpuriousWake i) p = spurious_wake_by s i p
after_at s (Fetch i) p = fetch_by s i p
after_at s (Leave i) p = leave_by s i p
after_at s (Glance i) p = glance_by s i p
after_at s (LookBehind i) p = look_behind_by s i p
after_at s (Peek i) p = peek_by s i p
after_at s (ClaimToHelp i) p = claim_by EnteringFor s i p
after_at s (ClaimToReturn i) p = claim_by Returning s i p
after_at s (Give i ks) p = give_by s i ks p
after_at s (Wake i) p = wake_by s i p

pub after_is : (s : Crowd) (e : Event) → after s e ≡ after_at s e (s.phase (seat_of e))
after_is s (Take i) = refl
after_is s (Look i) = refl
after_is s (Lend i) = refl
after_is s (StoreHint i) = refl
after_is s (Read i) = refl
after_is s (Retract i) = refl
after_is s (Park i) = refl
after_is s (SpuriousWake i) = refl
after_is s (Fetch i) = refl
after_is s (Leave i) = refl
after_is s (Glance i) = refl
after_is s (LookBehind i) = refl
after_is s (Peek i) = refl
after_is s (ClaimToHelp i) = refl
after_is s (ClaimToReturn i) = refl
after_is s (Give i ks) = refl
after_is s (Wake i) = refl

-- the phase of the seat b is the same in x, or b slept in s and has been woken
abbrev pub IsOther : Crowd → ℕ → Crowd → Type 0
IsOther s b x = (x.phase b ≡ s.phase b)
    ⊎ ((t : ℕ) × (s.phase b ≡ Has t Asleep) × (x.phase b ≡ Has t Reading))

-- the word of its place is the same, or the seat a has claimed it, or it was claimed
abbrev pub IsPlaced : Crowd → ℕ → ℕ → Crowd → Type 0
IsPlaced s a b x = (x.place b ≡ s.place b)
    ⊎ (((u : ℕ) × (v : ℕ) × (s.place b ≡ Posted u) × (x.place b ≡ Claimed v a))
    ⊎ ((u : ℕ) × (h : ℕ) × (s.place b ≡ Claimed u h)))

abbrev pub Beside : Crowd → ℕ → ℕ → Crowd → Type 0
Beside s a b x = (b ≢ a → IsOther s b x) × (b ≢ a → IsPlaced s a b x)
    × ((x.serving ≡ s.serving) ⊎ (s.serving < x.serving)) × (s.next ≤ x.next)

module _ (s : Crowd) (a b : ℕ) where
  same_beside : Beside s a b s
  same_beside = (λ ne. inl refl, λ ne. inl refl, inl refl, omega arith)

  moved_beside : (r : Phase) → Beside s a b (moved s a r)
  moved_beside r = (λ ne. inl (put_else s.phase a b r ne), λ ne. inl refl, inl refl, omega arith)

  own_beside : (r : Phase) (c : Place) → Beside s a b (placed s a r a c)
  own_beside r c = (
    λ ne. inl (put_else s.phase a b r ne),
    λ ne. inl (put_else s.place a b c ne),
    inl refl,
    omega arith,
  )

  by_take : (p : Phase) → Beside s a b (or_same s (take_by s a p))
  by_take (Wakes []) = by_test (λ o. Beside s a b (or_same s o)) (nat_lt a s.seats)
      (Some (record s {
        next = s.next + 1;
        owner = put s.owner s.next a;
        phase = put s.phase a (Has s.next Drawn);
      })) None
      (λ lt. (
        λ ne. inl (put_else s.phase a b (Has s.next Drawn) ne),
        λ ne. inl refl,
        inl refl,
        omega arith,
      ))
      (λ n. same_beside)
  by_take _ = same_beside

  by_look : (p : Phase) → Beside s a b (or_same s (look_by s a p))
  by_look (Has t Drawn) = moved_beside (Has t (if t == s.serving then Entering else Drawn))
  by_look (Has t Entering) = moved_beside (Has t (if t == s.serving then Inside else Entering))
  by_look (Leaves x js (EnteringFor j)) =
      moved_beside (Leaves x js (if x == s.serving then Helping j else EnteringFor j))
  by_look (Has t Looking) = moved_beside (Has t (if t == s.serving then Retracting else Parking))
  by_look _ = same_beside

  by_lend : (p : Phase) → Beside s a b (or_same s (lend_by s a p))
  by_lend (Has t Drawn) = own_beside (Has t Hinting) (Posted t)
  by_lend _ = same_beside

  by_store : (p : Phase) → Beside s a b (or_same s (store_hint_by s a p))
  by_store (Has t Hinting) = (
    λ ne. inl (put_else s.phase a b (Has t Reading) ne),
    λ ne. inl refl,
    inl refl,
    omega arith,
  )
  by_store _ = same_beside

  by_read : (p : Phase) → Beside s a b (or_same s (read_by s a p))
  by_read (Has t Reading) = moved_beside (Has t (seen (s.place a)))
  by_read _ = same_beside

  by_retract : (p : Phase) → Beside s a b (or_same s (retract_by s a p))
  by_retract (Has t Retracting) = by_place (s.place a)
    where
      by_place : (q : Place) → Beside s a b (retracted s a t q)
      by_place (Posted u) = own_beside (Has t Entering) Away
      by_place _ = moved_beside (Has t Reading)
  by_retract _ = same_beside

  by_park : (p : Phase) → Beside s a b (or_same s (park_by s a p))
  by_park (Has t Parking) =
      moved_beside (Has t (if is_posted (s.place a) then Asleep else Reading))
  by_park (Has t ParkingHeld) =
      moved_beside (Has t (if is_held (s.place a) then Asleep else Reading))
  by_park _ = same_beside

  by_spurious : (p : Phase) → Beside s a b (or_same s (spurious_wake_by s a p))
  by_spurious (Has t Asleep) = moved_beside (Has t Reading)
  by_spurious _ = same_beside

  by_fetch : (p : Phase) → Beside s a b (or_same s (fetch_by s a p))
  by_fetch (Has t Fetching) = own_beside (fetched t (s.place a)) Away
  by_fetch _ = same_beside

  leaves_beside : (r : Phase)
      → Beside s a b (record s { serving = s.serving + 1; phase = put s.phase a r })
  leaves_beside r = (
    λ ne. inl (put_else s.phase a b r ne),
    λ ne. inl refl,
    inr (omega arith),
    omega arith,
  )

  by_leave : (p : Phase) → Beside s a b (or_same s (leave_by s a p))
  by_leave (Has t Inside) = leaves_beside (Leaves (t + 1) [] (Peeking own_loads))
  by_leave (Leaves x js (Helping j)) = leaves_beside (Leaves x js (Giving j own_loads))
  by_leave _ = same_beside

  by_glance : (p : Phase) → Beside s a b (or_same s (glance_by s a p))
  by_glance (Leaves x js (Peeking (suc k))) = moved_beside (Leaves x js (Peeking k))
  by_glance (Leaves x js (Giving j (suc k))) = moved_beside (Leaves x js (Giving j k))
  by_glance _ = same_beside

  by_behind : (p : Phase) → Beside s a b (or_same s (look_behind_by s a p))
  by_behind (Leaves x js (Peeking (suc k))) =
      moved_beside (if nat_lt x s.next then Leaves x js (Peeking k) else Wakes js)
  by_behind (Leaves x js (Giving j (suc k))) =
      moved_beside (Leaves x js (if nat_lt (x + 1) s.next then Giving j k else GivingLast j))
  by_behind _ = same_beside

  by_peek : (p : Phase) → Beside s a b (or_same s (peek_by s a p))
  by_peek (Leaves x js (Peeking k)) = moved_beside (hinted x js (s.hint (x % s.words)))
  by_peek _ = same_beside

  hand_beside : (r : Phase) (j : ℕ) (c : Place) → (b ≡ j → IsPlaced s a b (placed s a r j c))
      → Beside s a b (placed s a r j c)
  hand_beside r j c there = (
    λ ne. inl (put_else s.phase a b r ne),
    λ ne. dite (ℕ_discrete b j) there (λ nj. inl (put_else s.place j b c nj)),
    inl refl,
    omega arith,
  )

  by_claim : (k : ℕ → Errand) (p : Phase) → Beside s a b (or_same s (claim_by k s a p))
  by_claim k (Leaves x js (Claiming j)) =
      by_test (λ z. Beside s a b z) (is_posted_with x (s.place j))
      (placed s a (Leaves x js (k j)) j (Claimed x a)) (moved s a (Wakes js))
      (λ is. hand_beside (Leaves x js (k j)) j (Claimed x a) (λ e. inr (inl (
        x,
        x,
        (ap s.place e ∙ is_with x (s.place j) is),
        (ap (put s.place j (Claimed x a)) e ∙ put_here s.place j (Claimed x a)),
      ))))
      (λ no_more. moved_beside (Wakes js))
  by_claim k _ = same_beside

  by_give : (ks : List ℕ) (y : Sound s) (p : Phase) → s.phase a ≡ p
      → Beside s a b (or_same s (give_by s a ks p))
  by_give ks y (Leaves x js (Giving j k)) at =
      by_test (λ o. Beside s a b (or_same s o)) (are_in (j ∷ js) ks)
      (Some (placed s a (Leaves (x + 1) ks (Peeking 0)) j (Done x a))) None
      (λ all. hand_beside (Leaves (x + 1) ks (Peeking 0)) j (Done x a)
      (λ e. inr (inr (
        x,
        a,
        ap s.place e
            ∙ (subst (λ k. Ok s a k (s.place a)) at (y.each a)).1.0,
      )))) (λ n. same_beside)
  by_give ks y (Leaves x js (GivingLast j)) at =
      by_test (λ o. Beside s a b (or_same s o)) (are_in (j ∷ js) ks)
      (Some (placed s a (Wakes ks) j (Done x a))) None
      (λ all. hand_beside (Wakes ks) j (Done x a)
      (λ e. inr (inr (
        x,
        a,
        ap s.place e
            ∙ (subst (λ k. Ok s a k (s.place a)) at (y.each a)).1,
      )))) (λ n. same_beside)
  by_give ks y (Leaves x js (Returning j)) at =
      by_test (λ o. Beside s a b (or_same s o)) (are_in js ks)
      (Some (placed s a (Wakes (j ∷ ks)) j (Back x a))) None
      (λ all. hand_beside (Wakes (j ∷ ks)) j (Back x a)
      (λ e. inr (inr (
        x,
        a,
        ap s.place e
            ∙ (subst (λ k. Ok s a k (s.place a)) at (y.each a)).1,
      )))) (λ n. same_beside)
  by_give ks y _ at = same_beside

  by_woken : (j : ℕ) (js : List ℕ) (q : Phase) → s.phase j ≡ q → Beside s a b (woken s a js j q)
  by_woken j js (Has t Asleep) is = (
    λ ne. dite (ℕ_discrete b j)
        (λ e. inr (
          t,
          ap s.phase e ∙ is,
          put_else (put s.phase j (Has t Reading)) a b (Wakes js) ne
              ∙ ap (put s.phase j (Has t Reading)) e ∙ put_here s.phase j (Has t Reading),
        ))
        (λ nj. inl (put_else (put s.phase j (Has t Reading)) a b (Wakes js) ne
        ∙ put_else s.phase j b (Has t Reading) nj)),
    λ ne. inl refl,
    inl refl,
    omega arith,
  )
  by_woken j js _ is = moved_beside (Wakes js)

  by_wake : (p : Phase) → Beside s a b (or_same s (wake_by s a p))
  by_wake (Wakes (j ∷ js)) = by_woken j js (s.phase j) refl
  by_wake _ = same_beside

pub beside : (s : Crowd) (e : Event) (b : ℕ) → Sound s → Beside s (seat_of e) b (happens s e)
beside s (Take i) b y = by_take s i b (s.phase i)
beside s (Look i) b y = by_look s i b (s.phase i)
beside s (Lend i) b y = by_lend s i b (s.phase i)
beside s (StoreHint i) b y = by_store s i b (s.phase i)
beside s (Read i) b y = by_read s i b (s.phase i)
beside s (Retract i) b y = by_retract s i b (s.phase i)
beside s (Park i) b y = by_park s i b (s.phase i)
beside s (SpuriousWake i) b y = by_spurious s i b (s.phase i)
beside s (Fetch i) b y = by_fetch s i b (s.phase i)
beside s (Leave i) b y = by_leave s i b (s.phase i)
beside s (Glance i) b y = by_glance s i b (s.phase i)
beside s (LookBehind i) b y = by_behind s i b (s.phase i)
beside s (Peek i) b y = by_peek s i b (s.phase i)
beside s (ClaimToHelp i) b y = by_claim s i b EnteringFor (s.phase i)
beside s (ClaimToReturn i) b y = by_claim s i b Returning (s.phase i)
beside s (Give i ks) b y = by_give s i b ks y (s.phase i) refl
beside s (Wake i) b y = by_wake s i b (s.phase i)
