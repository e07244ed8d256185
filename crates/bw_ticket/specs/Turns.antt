-- Whole runs of an open lock, turn by turn, and what is claimed of them: each is a run of the
-- waiting protocol of bw_wake.
use Rattle.std.specs.Prelude.{◌≡◌, ◌≢◌, ℕ, ◌+◌, ◌-◌, ◌*◌, ◌^◌, ◌%◌, ◌<◌, ◌≤◌, ◌==◌, ◌⊎◌}
use Rattle.std.specs.Prelude.{Bool, true, false, List, [], ◌∷◌, map, length}
use Rattle.std.specs.Prelude.{replicate, Some, slice_get, slice_set, slice_index}
use mathlib.Core.Option.{none}
use prog.Atomic.{either}
use Rattle.atomic_table.specs.Table.{Me, step}
use Rattle.bw_wake.specs.declared.seats.Phase.{Phase as WaitPhase}
use Rattle.bw_wake.specs.declared.seats.Phase.TheVariants.{Asleep as PAsleep}
use Rattle.bw_wake.specs.declared.seats.Event.{Event}
use Rattle.bw_wake.specs.Protocol.{WaitState, start, run}
use Rattle.bw_wake.specs.Progress.{is_still}
use Rattle.bw_wake.specs.Raises.{CanRaise}
use Rattle.bw_ticket.specs.declared.limits.TheConstants.{MAX_SEATS, MAX_CALLS}
use Rattle.bw_ticket.specs.declared.board.SlotValue.{SlotValue}
use Rattle.bw_ticket.specs.declared.board.SeatView.{SeatView}
use Rattle.bw_ticket.specs.declared.board.Phase.{Phase}
use Rattle.bw_ticket.specs.declared.board.Phase.TheVariants.{Waiting, Looked, Wakes}
use Rattle.bw_ticket.specs.Rule.{Each, ticket_of, wake_word, views_from}
use Rattle.bw_ticket.specs.Plays.{ticketed, ticket_in, looked, mark_stored, noted, left_by, next_seen}
use Rattle.bw_ticket.specs.Plays.{word_seen, mark_taken, woke, wake_made, fronted}
use Rattle.bw_ticket.specs.Follows.{in_protocol}
use Rattle.bw_ticket.specs.UnderWay.{state_with, SleepersAreSeen, NoWakeIsLostIn}

-- A seat is up; or it sleeps on its wake word; or it has slept, or tried to, since it stored its mark;
-- or it has made the wake that it owes, and has yet to make the step woken.
pub data Doing : Type 0 where
  IsUp : Doing
  Sleeping : Doing
  HasSlept : Doing
  HasRung : Doing

-- One turn of one seat: a step on a word of the table, each by the name of its play, or a sleep,
-- the end of one, or a wake. A seat looks or marks again if it has slept since it stored its mark.
pub data Turn : Type 0 where
  Draws : (seat : ℕ) → Turn
  Looks : (seat : ℕ) → Turn
  LooksAgain : (seat : ℕ) → Turn
  Marks : (seat : ℕ) → Turn
  MarksAgain : (seat : ℕ) → Turn
  Records : (seat : ℕ) → Turn
  Serves : (seat : ℕ) → Turn
  PeeksNext : (seat : ℕ) → Turn
  PeeksWord : (seat : ℕ) → Turn
  TakesMark : (seat : ℕ) → Turn
  Fronts : (seat : ℕ) → Turn
  Sleeps : (seat : ℕ) → Turn
  SleepsInVain : (seat : ℕ) → Turn
  Returns : (seat : ℕ) → Turn
  Rings : (seat : ℕ) → (other : ℕ) → Turn
  RingsNobody : (seat : ℕ) → Turn
  NotesWake : (seat : ℕ) → Turn

-- One seat of the lock: its view, and what it does.
pub record Sitter (M C R : Type 0) : Type 0 where
  pub view : SeatView M C R
  pub doing : Doing

-- The lock between two turns: the words of its table, and its seats in the order of `open`.
pub record Hall (M C R : Type 0) : Type 0 where
  pub words : List ℕ
  pub seats : List (Sitter M C R)

module _ {M C R : Type 0} where
  -- The seat with this view does this.
  abbrev pub seated : Doing → SeatView M C R → Sitter M C R
  seated d p = record { view = p; doing = d }

  -- The phase of a seat that has slept since it stored its mark: it waits as before its first look.
  abbrev pub slept : Phase M C R → Phase M C R
  slept (Looked t) = Waiting t
  slept f = f

  -- The phase in the protocol of a seat that does this: a wake that was made is one owed no more.
  abbrev pub phase_while : Doing → Phase M C R → WaitPhase
  phase_while IsUp f = in_protocol f
  phase_while Sleeping (Looked t) = PAsleep t
  phase_while Sleeping f = in_protocol f
  phase_while HasSlept f = in_protocol (slept f)
  phase_while HasRung f = in_protocol (woke f)

  abbrev pub where_is : Sitter M C R → WaitPhase
  where_is x = phase_while x.doing x.view.phase

  -- The state of the protocol that the lock is in.
  abbrev pub state_of : Hall M C R → WaitState
  state_of h = state_with h.words (map where_is h.seats)

  -- The lock as `open` leaves it: no word is set, and each seat is up and made no call.
  abbrev pub opened : ℕ → ℕ → Hall M C R
  opened seats calls = record {
    words = 0 ∷ 0 ∷ replicate MAX_SEATS 0;
    seats = map (seated IsUp) (views_from 0 seats calls);
  }

  -- The seat i makes a step on the word w: the word becomes g of what it was, the view changes as
  -- the play tells, and the seat does b in place of a.
  abbrev pub IsStep : Doing → Doing → ℕ → (ℕ → ℕ)
      → (Me (SlotValue M C R) (List (SeatView M C R)) → ℕ
      → Me (SlotValue M C R) (List (SeatView M C R)) → Type 0) → ℕ → Hall M C R → Hall M C R
      → Type 0
  IsStep a b w g told i h k = (p : SeatView M C R) × (q : SeatView M C R)
      × (c : List (ℕ × SlotValue M C R)) × (d : List (ℕ × SlotValue M C R))
      × (slice_get h.seats i ≡ Some (seated a p))
      × told (p ∷ [], c) (slice_index h.words w) (q ∷ [], d)
      × (k ≡ record {
        words = slice_set h.words w (g (slice_index h.words w));
        seats = slice_set h.seats i (seated b q);
      })

  -- No seat sleeps on the wake word of the ticket.
  abbrev pub NobodySleepsOn : ℕ → List (Sitter M C R) → Type 0
  NobodySleepsOn ticket xs = (j : ℕ) (p : SeatView M C R) (t : ℕ)
      → slice_get xs j ≡ Some (seated Sleeping p) → p.phase ≡ Looked t
      → wake_word t ≢ wake_word ticket

  -- The turn leads from one state of the lock to the other. A seat draws only with a call left, and
  -- records only with the slot in hand. It sleeps if it has looked in vain since it stored its
  -- mark, and has not slept since. The half of its wake word that the system compares must have that
  -- mark: else it sleeps in vain. A sleep ends for no reason, or by a wake. A wake is of a seat that
  -- sleeps on the word, or of nobody if none does. One that has slept looks and marks again, and
  -- has slept until it marks or goes inside.
  abbrev pub IsTurn : Turn → Hall M C R → Hall M C R → Type 0
  IsTurn (Draws i) h k = IsStep IsUp IsUp 0 (λ n. (n + 1) % 2 ^ 64)
      (λ m n m'. Each (λ p. 0 < p.left) m.0 × ticketed m n m') i h k
  IsTurn (Looks i) h k = IsStep IsUp IsUp 1 (λ n. n) looked i h k
  IsTurn (LooksAgain i) h k =
      IsStep HasSlept HasSlept 1 (λ n. n)
      (λ m n m'. looked m n m' × (n ≢ ticket_in m.0)
      × Each (λ p. p.phase ≡ Looked (ticket_of p.phase)) m.0) i h k
      ⊎ IsStep HasSlept IsUp 1 (λ n. n) (λ m n m'. looked m n m' × (n ≡ ticket_in m.0)) i h k
  IsTurn (Marks i) h k = (w : ℕ) × (v : ℕ)
      × IsStep IsUp IsUp w (λ n. v) (mark_stored (step 1 w v 0 none)) i h k
  IsTurn (MarksAgain i) h k = (w : ℕ) × (v : ℕ)
      × IsStep HasSlept IsUp w (λ n. v) (mark_stored (step 1 w v 0 none)) i h k
  IsTurn (Records i) h k = IsStep IsUp IsUp 1 (λ n. n)
      (λ m n m'. ((z : SlotValue M C R) × (m.1 ≡ (0, z) ∷ [])) × noted m n m') i h k
  IsTurn (Serves i) h k = IsStep IsUp IsUp 1 (λ n. (n + 1) % 2 ^ 64) left_by i h k
  IsTurn (PeeksNext i) h k = (w : ℕ)
      × IsStep IsUp IsUp w (λ n. n) (next_seen (step 1 w 0 0 none)) i h k
  IsTurn (PeeksWord i) h k = (w : ℕ)
      × IsStep IsUp IsUp w (λ n. n) (word_seen (step 1 w 0 0 none)) i h k
  IsTurn (TakesMark i) h k = (w : ℕ) × (v : ℕ) × (u : ℕ)
      × IsStep IsUp IsUp w (λ n. either (n == v) u n) (mark_taken (step 1 w v u none)) i h k
  IsTurn (Fronts i) h k = (a : Doing) × IsStep a a 1 (λ n. n) fronted i h k
  IsTurn (Sleeps i) h k = (p : SeatView M C R) × (t : ℕ)
      × (slice_get h.seats i ≡ Some (seated IsUp p)) × (p.phase ≡ Looked t)
      × (slice_index h.words (wake_word t) % 2 ^ 32 ≡ t + 1)
      × (k ≡ record { words = h.words; seats = slice_set h.seats i (seated Sleeping p) })
  IsTurn (SleepsInVain i) h k = (p : SeatView M C R) × (t : ℕ)
      × (slice_get h.seats i ≡ Some (seated IsUp p)) × (p.phase ≡ Looked t)
      × (slice_index h.words (wake_word t) % 2 ^ 32 ≢ t + 1)
      × (k ≡ record { words = h.words; seats = slice_set h.seats i (seated HasSlept p) })
  IsTurn (Returns i) h k = (p : SeatView M C R)
      × (slice_get h.seats i ≡ Some (seated Sleeping p))
      × (k ≡ record { words = h.words; seats = slice_set h.seats i (seated HasSlept p) })
  IsTurn (Rings i j) h k = (p : SeatView M C R) × (ticket : ℕ) × (n : ℕ) × (q : SeatView M C R)
      × (t : ℕ)
      × (slice_get h.seats i ≡ Some (seated IsUp p)) × (p.phase ≡ Wakes ticket n)
      × (slice_get h.seats j ≡ Some (seated Sleeping q)) × (q.phase ≡ Looked t)
      × (wake_word t ≡ wake_word ticket)
      × (k ≡ record {
        words = h.words;
        seats = slice_set (slice_set h.seats i (seated HasRung p)) j (seated HasSlept q);
      })
  IsTurn (RingsNobody i) h k = (p : SeatView M C R) × (ticket : ℕ) × (n : ℕ)
      × (slice_get h.seats i ≡ Some (seated IsUp p)) × (p.phase ≡ Wakes ticket n)
      × NobodySleepsOn ticket h.seats
      × (k ≡ record { words = h.words; seats = slice_set h.seats i (seated HasRung p) })
  IsTurn (NotesWake i) h k = IsStep HasRung IsUp 1 (λ n. n) wake_made i h k

  -- These turns, one after another, lead from one state of the lock to the other.
  abbrev pub Leads : Hall M C R → List Turn → Hall M C R → Type 0
  Leads h [] k = k ≡ h
  Leads h (t ∷ ts) k = (m : Hall M C R) × IsTurn t h m × Leads m ts k

-- the seat that makes a turn
abbrev pub maker : Turn → ℕ
maker (Draws i) = i
maker (Looks i) = i
maker (LooksAgain i) = i
maker (Marks i) = i
maker (MarksAgain i) = i
maker (Records i) = i
maker (Serves i) = i
maker (PeeksNext i) = i
maker (PeeksWord i) = i
maker (TakesMark i) = i
maker (Fronts i) = i
maker (Sleeps i) = i
maker (SleepsInVain i) = i
maker (Returns i) = i
maker (Rings i j) = i
maker (RingsNobody i) = i
maker (NotesWake i) = i

-- whether a turn brings its seat on: a front, the end of a sleep and the step after a wake do not
abbrev pub brings_on : Turn → Bool
brings_on (Fronts i) = false
brings_on (Returns i) = false
brings_on (NotesWake i) = false
brings_on _ = true

-- Some turn of the list is of the seat i, and brings it on.
abbrev pub MakesTurn : ℕ → List Turn → Type 0
MakesTurn i [] = ⊥
MakesTurn i (t ∷ ts) = ((maker t ≡ i) × (brings_on t ≡ true)) ⊎ MakesTurn i ts

module _ {M C R : Type 0} where
  -- A round of turns: each seat that is neither idle nor asleep makes one that brings it on. Other
  -- turns may come at any place.
  abbrev pub IsRoundOfTurns : Hall M C R → List Turn → Type 0
  IsRoundOfTurns h turns = (i : ℕ) (x : Sitter M C R) → slice_get h.seats i ≡ Some x
      → is_still (where_is x) ≡ false → MakesTurn i turns

  -- These rounds, one after another, lead from one state of the lock to the other.
  abbrev pub LeadsInRounds : Hall M C R → List (List Turn) → Hall M C R → Type 0
  LeadsInRounds h [] k = k ≡ h
  LeadsInRounds h (r ∷ rs) k =
      (m : Hall M C R) × Leads h r m × IsRoundOfTurns h r × LeadsInRounds m rs k

-- After any turns of an opened lock, rounds of turns serve drawn tickets as events do.
abbrev pub RunsServeDrawnTickets : (M C R : Type 0) → Type 0
RunsServeDrawnTickets M C R = (seats calls : ℕ) (turns : List Turn) (rounds : List (List Turn))
    (h k : Hall M C R) (ticket : ℕ)
    → seats ≤ MAX_SEATS → calls ≤ MAX_CALLS → Leads (opened seats calls) turns h
    → ticket < slice_index h.words 0
    → 8 * (ticket + 1 - slice_index h.words 1) ≤ length rounds
    → LeadsInRounds h rounds k → ticket < slice_index k.words 1

-- Facts of each state that a lock of so many seats is led to.
pub record FollowsProtocol {M C R : Type 0} (seats : ℕ) (h : Hall M C R) : Type 0 where
  -- it is the state of the protocol after some list of events
  pub events : List Event
  pub is_run : run (start seats MAX_SEATS) events ≡ state_of h
  -- the mark of each seat that sleeps is stored, or some seat wakes it next
  pub seen : SleepersAreSeen (state_of h)
  -- no wake-up is lost, and the state is not stuck
  pub not_lost : NoWakeIsLostIn (state_of h)
  -- at most seven events of awake seats raise the ticket that is served, if it is drawn
  pub raises : (state_of h).serving < (state_of h).next → CanRaise 7 (state_of h)

-- Every list of turns of a lock that was opened leads to such states.
abbrev pub RunsFollowTheProtocol : (M C R : Type 0) → Type 0
RunsFollowTheProtocol M C R = (seats calls : ℕ) (turns : List Turn) (h : Hall M C R)
    → seats ≤ MAX_SEATS → calls ≤ MAX_CALLS → Leads (opened seats calls) turns h
    → FollowsProtocol seats h
