-- That no wake is lost in the running lock, in the words of the waiting protocol of bw_wake, of
-- every state that the table's rule holds of.
-- The sleep is no step of the table, so a seat that sleeps has no phase of its own in its view: it
-- is one that has looked in vain since it stored
-- its mark, and may sleep. What is said here is said whichever of these sleep.
use Rattle.std.specs.Prelude.{◌≡◌, ℕ, ◌+◌, ◌%◌, ◌≤◌, ◌==◌, ◌⊎◌, false, if◌then◌else◌, List, [], ◌∷◌}
use Rattle.std.specs.Prelude.{◌++◌, map, drop, length, slice_index, nat_lt}
use Rattle.bw_ticket.specs.declared.limits.TheConstants.{MAX_SEATS}
use Rattle.atomic_table.specs.Table.{State}
use Rattle.bw_wake.specs.declared.seats.Phase.{Phase as WaitPhase}
use Rattle.bw_wake.specs.declared.seats.Phase.TheVariants.{Waiting as PWaiting}
use Rattle.bw_wake.specs.declared.seats.Phase.TheVariants.{Looked as PLooked, Asleep as PAsleep}
use Rattle.bw_wake.specs.declared.seats.Event.{Event}
use Rattle.bw_wake.specs.Protocol.{WaitState, mark_at, happens}
use Rattle.bw_wake.specs.Progress.{count, sleeps, wakes, is_stuck, WakeIsUnderWay, GoesOn}
use Rattle.bw_ticket.specs.declared.board.SlotValue.{SlotValue}
use Rattle.bw_ticket.specs.declared.board.SeatView.{SeatView}
use Rattle.bw_ticket.specs.declared.board.About.{About}
use Rattle.bw_ticket.specs.Rule.{Ruled}
use Rattle.bw_ticket.specs.Follows.{in_protocol}

module _ {M C R : Type 0} where
  -- the phases in the protocol of the seats of one list of views, and of all lists
  abbrev pub phases_of : List (SeatView M C R) → List WaitPhase
  phases_of [] = []
  phases_of (p ∷ ps) =
      if nat_lt p.number MAX_SEATS then in_protocol p.phase ∷ phases_of ps else phases_of ps

  abbrev pub phases_in : List (List (SeatView M C R)) → List WaitPhase
  phases_in [] = []
  phases_in (v ∷ vs) = phases_of v ++ phases_in vs

-- the state of the protocol with the words of the table, and the seats in these phases
abbrev pub state_with : List ℕ → List WaitPhase → WaitState
state_with words phases =
    record {
      next = slice_index words 0;
      serving = slice_index words 1;
      words = drop 2 words;
      phases = phases;
    }

-- a seat is where its view says, or its view says that it may sleep, and it sleeps, or has slept
abbrev pub IsThere : WaitPhase → WaitPhase → Type 0
IsThere p q = (p ≡ q) ⊎ (((t : ℕ) × (p ≡ PLooked t) × (q ≡ PAsleep t))
    ⊎ ((t : ℕ) × (p ≡ PLooked t) × (q ≡ PWaiting t)))

-- each seat of a list is where its view says, or sleeps or has slept where its view says that it may
abbrev pub AreThere : List WaitPhase → List WaitPhase → Type 0
AreThere [] [] = Unit {0}
AreThere [] (q ∷ qs) = ⊥
AreThere (p ∷ ps) [] = ⊥
AreThere (p ∷ ps) (q ∷ qs) = IsThere p q × AreThere ps qs

-- if a seat sleeps, its mark stands, or some seat wakes it next
abbrev pub SleepersAreSeen : WaitState → Type 0
SleepersAreSeen s = (x : ℕ) → 1 ≤ count (sleeps x) s.phases
    → (mark_at s x ≡ x + 1) ⊎ (1 ≤ count (wakes x) s.phases)

-- a seat that may sleep sleeps if its mark stands in the wake words
abbrev pub asleep_if_marked : List ℕ → WaitPhase → WaitPhase
asleep_if_marked words (PLooked t) =
    if slice_index words (t % length words) == t + 1 then PAsleep t else PLooked t
asleep_if_marked words p = p

-- no seat that sleeps has its wake passed over, the ticket that is served goes on, the state is not
-- stuck, and the sleepers are seen after each
-- event too
pub record NoWakeIsLostIn (s : WaitState) : Type 0 where
  pub under_way : WakeIsUnderWay s
  pub goes_on : GoesOn s
  pub not_stuck : is_stuck s ≡ false
  pub still_seen : (e : Event) → SleepersAreSeen (happens s e)

-- So it is in every state that the rule holds of
pub record NoWakeIsLostInLock {M C R : Type 0} (after : M → ℕ → C → M) (answer : M → ℕ → C → R)
    : Type 0 where
  -- whichever of the seats that may sleep do, if each of them has its mark standing, or is woken
  -- next
  pub sleepers : (about : About M) (s : State (SlotValue M C R) (List (SeatView M C R)))
      (phases : List WaitPhase) → Ruled after answer about s
      → AreThere (phases_in s.views) phases → SleepersAreSeen (state_with s.words phases)
      → NoWakeIsLostIn (state_with s.words phases)
  -- where each seat sleeps that may sleep and has its mark standing
  pub marked : (about : About M) (s : State (SlotValue M C R) (List (SeatView M C R)))
      → Ruled after answer about s
      → NoWakeIsLostIn
      (state_with s.words (map (asleep_if_marked (drop 2 s.words)) (phases_in s.views)))
