-- What follows from the invariant: no wake is lost, none is stuck, one is inside.
use Rattle.std.proofs.Common.{◌≡◌, ℕ, zero, suc, ◌<◌, List, [], ◌∷◌}
use Rattle.std.proofs.Common.{true, false, refl, sym, ap}
use Rattle.std.proofs.Common.{◌∙◌, subst, arith, is_some}
use Rattle.std.proofs.Common.{◌+◌, Some, None, if◌then◌else◌}
use Rattle.bw_lend.proofs.CrowdHands.{are_all}
use Rattle.bw_lend.specs.Crowd.{placed}
use Rattle.bw_lend.specs.Crowd.{Stage, Drawn, Hinting, Reading, Looking, Retracting, Parking}
use Rattle.bw_lend.specs.Crowd.{ParkingHeld, Asleep, Fetching, Entering, Inside}
use Rattle.bw_lend.specs.Crowd.{Peeking, Claiming, EnteringFor, Helping, Giving, GivingLast}
use Rattle.bw_lend.specs.Crowd.{Returning}
use Rattle.bw_lend.specs.Crowd.{Phase, Has, Leaves, Wakes, Place, Away, Posted, Claimed, Done, Back}
use Rattle.bw_lend.specs.Crowd.{Crowd, Look, StoreHint, Read, Retract, Park}
use Rattle.bw_lend.specs.Crowd.{Fetch, Leave, Glance, Peek, ClaimToHelp}
use Rattle.bw_lend.specs.Crowd.{Give, Wake, run, start}
use Rattle.bw_lend.specs.Crowd.{look_by, store_hint_by, read_by, retract_by, park_by, fetch_by}
use Rattle.bw_lend.specs.Crowd.{leave_by, glance_by, peek_by, claim_by, give_by, wake_by}
use Rattle.bw_lend.specs.CrowdLaws.{WakesFirst, Holds, Comes}
use Rattle.bw_lend.specs.CrowdLaws.{WakeIsUnderWay, NoWakeIsLost, is_still, NoneIsStuck, CanStep}
use Rattle.bw_lend.specs.CrowdLaws.{AwakeSeatsCanStep, IsInsideFor, is_inside}
use Rattle.bw_lend.specs.CrowdLaws.{OnlyTheServedTicketIsInside, AtMostOneIsInside}
use Rattle.bw_lend.proofs.CrowdInvariant.{Ok, OkPlace, Sound}
use Rattle.bw_lend.proofs.CrowdRuns.{run_sound, start_sound}

under_way : (s : Crowd) (i t : ℕ) (q : Place) → OkPlace s i t Asleep q → WakeIsUnderWay s i t q
under_way s i t Away h = h
under_way s i t (Posted u) h = (h.1, h.2.1)
under_way s i t (Claimed u b) h = h.2
under_way s i t (Done u b) h = (h.1, h.3)
under_way s i t (Back u b) h = (h.1, h.3)

pub wake_under_way : (s : Crowd) → Sound s → (i t : ℕ) → s.phase i ≡ Has t Asleep
    → WakeIsUnderWay s i t (s.place i)
wake_under_way s y i t asleep = under_way s i t (s.place i)
    (let ok = subst (λ p. Ok s i p (s.place i)) asleep (y.each i) in ok.3)

pub no_wake_is_lost : NoWakeIsLost
no_wake_is_lost seats words events i t le asleep = wake_under_way (run (start seats words) events)
    (run_sound (start seats words) events (start_sound seats words le)) i t asleep

-- a phase that someone comes with, or that holds a seat, or that wakes one, is not still
pub comes_awake : (p : Phase) (t i : ℕ) → Comes p t i → is_still p ≡ false
comes_awake (Has u w) t i h = absurd h
comes_awake (Leaves x js e) t i h = refl
comes_awake (Wakes js) t i h = absurd h

pub holds_awake : (p : Phase) (v t i : ℕ) → Holds v p t i → is_still p ≡ false
holds_awake (Has u w) v t i h = absurd h
holds_awake (Leaves x js e) v t i h = refl
holds_awake (Wakes js) v t i h = absurd h

pub first_awake : (p : Phase) (i : ℕ) → WakesFirst p i → is_still p ≡ false
first_awake (Has u w) i h = absurd h
first_awake (Leaves x js e) i h = refl
first_awake (Wakes []) i h = absurd h
first_awake (Wakes (j ∷ js)) i h = refl

-- with the seat of the served ticket
goes_on : (s : Crowd) → Sound s → (i : ℕ) (w : Stage) → s.phase i ≡ Has s.serving w
    → (j : ℕ) × (is_still (s.phase j) ≡ false)
goes_on s y i Drawn e = (i, ap is_still e)
goes_on s y i Hinting e = (i, ap is_still e)
goes_on s y i Reading e = (i, ap is_still e)
goes_on s y i Looking e = (i, ap is_still e)
goes_on s y i Retracting e = (i, ap is_still e)
goes_on s y i Parking e = (i, ap is_still e)
goes_on s y i ParkingHeld e = (i, ap is_still e)
goes_on s y i Asleep e = by_place (s.place i) (wake_under_way s y i s.serving e)
  where
    by_place : (q : Place) → WakeIsUnderWay s i s.serving q
        → (j : ℕ) × (is_still (s.phase j) ≡ false)
    by_place Away h = absurd h
    by_place (Posted u) h = let w = h.1 refl in (w.0, comes_awake (s.phase w.0) s.serving i w.1)
    by_place (Claimed u b) h = (b, holds_awake (s.phase b) s.serving s.serving i h)
    by_place (Done u b) h = let lt = h.0 in absurd (omega arith)
    by_place (Back u b) h = (b, first_awake (s.phase b) i h.1)
goes_on s y i Fetching e = (i, ap is_still e)
goes_on s y i Entering e = (i, ap is_still e)
goes_on s y i Inside e = (i, ap is_still e)

pub not_stuck : (s : Crowd) → Sound s → s.serving < s.next
    → (j : ℕ) × (is_still (s.phase j) ≡ false)
not_stuck s y lt = let k = y.held s.serving (omega arith) lt in
    goes_on s y (s.owner s.serving) k.0 k.1

pub none_is_stuck : NoneIsStuck
none_is_stuck seats words events le lt = not_stuck (run (start seats words) events)
    (run_sound (start seats words) events (start_sound seats words le)) lt

can_step : (s : Crowd) (i : ℕ) (p : Phase) → s.phase i ≡ p → is_still p ≡ false → CanStep s i
can_step s i (Has t Drawn) at e =
    (Look i, refl, subst (λ o. is_some (look_by s i o) ≡ true) (sym at) refl)
can_step s i (Has t Hinting) at e =
    (StoreHint i, refl, subst (λ o. is_some (store_hint_by s i o) ≡ true) (sym at) refl)
can_step s i (Has t Reading) at e =
    (Read i, refl, subst (λ o. is_some (read_by s i o) ≡ true) (sym at) refl)
can_step s i (Has t Looking) at e =
    (Look i, refl, subst (λ o. is_some (look_by s i o) ≡ true) (sym at) refl)
can_step s i (Has t Retracting) at e =
    (Retract i, refl, subst (λ o. is_some (retract_by s i o) ≡ true) (sym at) refl)
can_step s i (Has t Parking) at e =
    (Park i, refl, subst (λ o. is_some (park_by s i o) ≡ true) (sym at) refl)
can_step s i (Has t ParkingHeld) at e =
    (Park i, refl, subst (λ o. is_some (park_by s i o) ≡ true) (sym at) refl)
can_step s i (Has t Asleep) at e = absurd (cc e)
can_step s i (Has t Fetching) at e =
    (Fetch i, refl, subst (λ o. is_some (fetch_by s i o) ≡ true) (sym at) refl)
can_step s i (Has t Entering) at e =
    (Look i, refl, subst (λ o. is_some (look_by s i o) ≡ true) (sym at) refl)
can_step s i (Has t Inside) at e =
    (Leave i, refl, subst (λ o. is_some (leave_by s i o) ≡ true) (sym at) refl)
can_step s i (Leaves x js (Peeking zero)) at e =
    (Peek i, refl, subst (λ o. is_some (peek_by s i o) ≡ true) (sym at) refl)
can_step s i (Leaves x js (Peeking (suc k))) at e =
    (Glance i, refl, subst (λ o. is_some (glance_by s i o) ≡ true) (sym at) refl)
can_step s i (Leaves x js (Claiming j)) at e =
    (ClaimToHelp i, refl, subst (λ o. is_some (claim_by EnteringFor s i o) ≡ true) (sym at) refl)
can_step s i (Leaves x js (EnteringFor j)) at e =
    (Look i, refl, subst (λ o. is_some (look_by s i o) ≡ true) (sym at) refl)
can_step s i (Leaves x js (Helping j)) at e =
    (Leave i, refl, subst (λ o. is_some (leave_by s i o) ≡ true) (sym at) refl)
can_step s i (Leaves x js (Giving j zero)) at e = (
  Give i (j ∷ js),
  refl,
  subst (λ o. is_some (give_by s i (j ∷ js) o) ≡ true) (sym at)
      (ap (λ b. is_some (if b
      then Some (placed s i (Leaves (x + 1) (j ∷ js) (Peeking 0)) j (Done x i)) else None))
      (are_all (j ∷ js) (j ∷ js) (λ k h. h))),
)
can_step s i (Leaves x js (Giving j (suc k))) at e =
    (Glance i, refl, subst (λ o. is_some (glance_by s i o) ≡ true) (sym at) refl)
can_step s i (Leaves x js (GivingLast j)) at e = (
  Give i (j ∷ js),
  refl,
  subst (λ o. is_some (give_by s i (j ∷ js) o) ≡ true) (sym at)
      (ap (λ b. is_some (if b then Some (placed s i (Wakes (j ∷ js)) j (Done x i)) else None))
      (are_all (j ∷ js) (j ∷ js) (λ k h. h))),
)
can_step s i (Leaves x js (Returning j)) at e = (
  Give i js,
  refl,
  subst (λ o. is_some (give_by s i js o) ≡ true) (sym at)
      (ap (λ b. is_some (if b then Some (placed s i (Wakes (j ∷ js)) j (Back x i)) else None))
      (are_all js js (λ k h. h))),
)
can_step s i (Wakes []) at e = absurd (cc e)
can_step s i (Wakes (j ∷ js)) at e =
    (Wake i, refl, subst (λ o. is_some (wake_by s i o) ≡ true) (sym at) refl)

pub awake_seats_can_step : AwakeSeatsCanStep
awake_seats_can_step s i e = can_step s i (s.phase i) refl e

-- the one inside has the served ticket of the seat that drew it
module _ (s : Crowd) (y : Sound s) where
  own_ticket : (i t : ℕ) (q : Place) → Ok s i (Has t Inside) q
      → (t ≡ s.serving) × (i ≡ s.owner s.serving)
  own_ticket i t Away h = (h.3, sym h.1 ∙ ap s.owner h.3)
  own_ticket i t (Posted u) h = absurd h.3.2
  own_ticket i t (Claimed u b) h = absurd h.3.1
  own_ticket i t (Done u b) h = absurd h.3.2
  own_ticket i t (Back u b) h = absurd h.3.2

  lent_ticket : (i x : ℕ) (js : List ℕ) (j : ℕ) (p : Phase)
      → s.phase i ≡ Leaves x js (Helping j) → Ok s j p (Claimed x i)
      → (x ≡ s.serving) × (j ≡ s.owner s.serving)
  lent_ticket i x js j (Has t w) was ok =
      let held = subst (λ k. Holds s.serving k t j) was ok.3.2 in
      (held.0 ∙ held.2, sym ok.1 ∙ ap s.owner held.2)
  lent_ticket i x js j (Leaves u ks k) was ok = absurd (cc ok.0)
  lent_ticket i x js j (Wakes ks) was ok = absurd (cc ok)

  inside_for : (i : ℕ) (p : Phase) → s.phase i ≡ p → is_inside p ≡ true
      → IsInsideFor s i (s.owner s.serving) s.serving p
  inside_for i (Has t Inside) at e =
      own_ticket i t (s.place i) (subst (λ k. Ok s i k (s.place i)) at (y.each i))
  inside_for i (Leaves x js (Helping j)) at e =
      let had = (subst (λ k. Ok s i k (s.place i)) at (y.each i)).1 in
      lent_ticket i x js j (s.phase j) at (subst (λ o. Ok s j (s.phase j) o) had (y.each j))
  inside_for i _ at e = absurd (cc e)

  -- nobody has claimed a seat that is inside
  not_claimed : (i t b x j : ℕ) → s.phase i ≡ Has t Inside → i ≡ b → s.place b ≡ Claimed x j → ⊥
  not_claimed i t b x j at e had = (subst (λ o. Ok s i (Has t Inside) o) (ap s.place e ∙ had)
      (subst (λ m. Ok s i m (s.place i)) at (y.each i))).3.1

  word_of : (i x : ℕ) (js : List ℕ) (b : ℕ) → s.phase i ≡ Leaves x js (Helping b)
      → s.place b ≡ Claimed x i
  word_of i x js b at = (subst (λ m. Ok s i m (s.place i)) at (y.each i)).1

  same_own : (i j t : ℕ) (q : Phase) → s.phase i ≡ Has t Inside → s.phase j ≡ q
      → i ≡ s.owner s.serving → IsInsideFor s j (s.owner s.serving) s.serving q → i ≡ j
  same_own i j t (Has u Inside) at to h k = h ∙ sym k.1
  same_own i j t (Leaves x js (Helping b)) at to h k =
      absurd (not_claimed i t b x j at (h ∙ sym k.1) (word_of j x js b to))
  same_own i j t _ at to h k = absurd k

  same_help : (i j x : ℕ) (js : List ℕ) (b : ℕ) (q : Phase) → s.phase i ≡ Leaves x js (Helping b)
      → s.phase j ≡ q → b ≡ s.owner s.serving
      → IsInsideFor s j (s.owner s.serving) s.serving q → i ≡ j
  same_help i j x js b (Has u Inside) at to h k =
      absurd (not_claimed j u b x i to (k.1 ∙ sym h) (word_of i x js b at))
  same_help i j x js b (Leaves z ks (Helping c)) at to h k =
      let same : Claimed x i ≡ Claimed z j =
      sym (word_of i x js b at) ∙ ap s.place (h ∙ sym k.1) ∙ word_of j z ks c to in cc same
  same_help i j x js b _ at to h k = absurd k

  -- two that are inside for the same seat are one
  same_one : (i j : ℕ) (p q : Phase) → s.phase i ≡ p → s.phase j ≡ q
      → IsInsideFor s i (s.owner s.serving) s.serving p
      → IsInsideFor s j (s.owner s.serving) s.serving q → i ≡ j
  same_one i j (Has t Inside) q at to h k = same_own i j t q at to h.1 k
  same_one i j (Leaves x js (Helping b)) q at to h k = same_help i j x js b q at to h.1 k
  same_one i j _ q at to h k = absurd h

pub only_the_served_ticket_is_inside : OnlyTheServedTicketIsInside
only_the_served_ticket_is_inside seats words events i le e =
    inside_for (run (start seats words) events)
    (run_sound (start seats words) events (start_sound seats words le)) i
    ((run (start seats words) events).phase i) refl e

pub at_most_one_is_inside : AtMostOneIsInside
at_most_one_is_inside seats words events i j le e f =
    let y = run_sound (start seats words) events (start_sound seats words le) in
    same_one (run (start seats words) events) y i j
    ((run (start seats words) events).phase i) ((run (start seats words) events).phase j) refl refl
    (inside_for (run (start seats words) events) y i
    ((run (start seats words) events).phase i) refl e)
    (inside_for (run (start seats words) events) y j
    ((run (start seats words) events).phase j) refl f)
