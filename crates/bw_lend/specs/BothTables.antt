-- Runs of a lock whose seats are lent: turns on the lock's own table, which are those of bw_ticket,
-- beside turns on the table of places. What is claimed of them: each is one event of the crowd, or
-- none, and rounds of events or of accesses serve each drawn ticket.
use Rattle.std.specs.Prelude.{◌≡◌, ◌≢◌, ℕ, ◌+◌, ◌-◌, ◌*◌, ◌<◌, ◌≤◌, ◌⊎◌}
use Rattle.std.specs.Prelude.{Bool, true, false, List, [], ◌∷◌, Option, None, Some, length}
use Rattle.std.specs.Prelude.{slice_get, slice_index}
use Rattle.bw_ticket.specs.declared.board.SeatView.{SeatView}
use Rattle.bw_ticket.specs.declared.board.Phase.{Phase as ViewPhase}
use Rattle.bw_ticket.specs.declared.board.Phase.TheVariants.{Idle, Waiting}
use Rattle.bw_ticket.specs.Rule.{ticket_of, waits}
use Rattle.bw_ticket.specs.Turns.{Hall as LockHall, Turn as LockTurn, IsTurn as IsLockTurn}
use Rattle.bw_ticket.specs.Turns.{maker as lock_seat, opened as lock_opened, seated}
use Rattle.bw_ticket.specs.Turns.Turn.{Draws, Looks as LooksIn, Marks, Serves, PeeksNext}
use Rattle.bw_ticket.specs.Turns.Turn.{PeeksWord, Fronts}
use Rattle.bw_ticket.specs.Turns.Doing.{IsUp}
use Rattle.bw_lend.specs.declared.task.Task.TheVariants.{ToEnter, ToHelp}
use Rattle.bw_lend.specs.Crowd.{Asleep, Has, Wakes, Event, Take, Look, Leave, LookBehind, Glance}
use Rattle.bw_lend.specs.Crowd.{SpuriousWake, put, start, happens, run}
use Rattle.bw_lend.specs.CrowdLaws.{is_still}
use Rattle.bw_lend.specs.Turns.{Hall, Turn, Makes, Visits, IsTurn, maker, opened}

-- One turn. A thread makes a turn on the table of places, or one on the lock's table, by a seat of
-- the lock. It calls the lock to make the call of a seat, and ends that call. In a call it may
-- glance, by a load that is no step of the table. It wakes for no reason.
pub data BothTurn : Type 0 where
  OnPlaces : Turn → BothTurn
  OnLock : ℕ → LockTurn → BothTurn
  Calls : (thread : ℕ) → (seat : ℕ) → BothTurn
  Ends : ℕ → BothTurn
  Glances : ℕ → BothTurn
  WakesUp : ℕ → BothTurn

-- Between two turns: the lock, and the places with the crowd. Of each thread the seat with which it
-- is in a call of the lock, and whether it has looked at the lock in that call.
pub record Both (M C R : Type 0) : Type 0 where
  pub lock : LockHall M C R
  pub hall : Hall
  pub call : ℕ → Option ℕ
  pub looked : ℕ → Bool

-- whether a turn is on the table of places
abbrev pub is_on_places : Turn → Bool
is_on_places (Makes e) = false
is_on_places t = true

-- the event of the crowd that a thread makes by a turn on the lock's table: a load of `serving` by
-- which a seat notes its call, or sees the front, is none
abbrev pub event_of : ℕ → LockTurn → Option Event
event_of i (Draws j) = Some (Take i)
event_of i (LooksIn j) = Some (Look i)
event_of i (Serves j) = Some (Leave i)
event_of i (PeeksNext j) = Some (LookBehind i)
event_of i (PeeksWord j) = Some (Glance i)
event_of i u = None

-- the places and the crowd after this event
abbrev pub made : Hall → Option Event → Hall
made h None = h
made h (Some e) = record h { crowd = happens h.crowd e }

-- which threads have looked after this turn
abbrev pub looking : (ℕ → Bool) → ℕ → LockTurn → ℕ → Bool
looking f i (LooksIn j) = put f i true
looking f i u = f

module _ {M C R : Type 0} where
  -- all places are empty, and the lock is as `open` leaves it
  abbrev pub opened_both : ℕ → ℕ → ℕ → Both M C R
  opened_both seats words calls = record {
    lock = lock_opened seats calls;
    hall = opened seats words;
    call = λ i. None;
    looked = λ i. false;
  }

  -- no thread is in a call with the seat j
  abbrev pub IsFree : Both M C R → ℕ → Type 0
  IsFree b j = (i : ℕ) → b.call i ≢ Some j

  -- the seat j of the lock is up, in this phase
  abbrev pub IsIn : Both M C R → ℕ → ViewPhase M C R → Type 0
  IsIn b j f = (p : SeatView M C R) × (slice_get b.lock.seats j ≡ Some (seated IsUp p))
      × (p.phase ≡ f)

  -- the visit of the thread i says that it enters, for itself or for another one
  abbrev pub Enters : Both M C R → ℕ → ℕ → Type 0
  Enters b i t = Visits b.hall i 0 t 0 ToEnter
      ⊎ ((place : ℕ) × (owed : ℕ) × Visits b.hall i 0 t owed (ToHelp place))

  -- The thread may make the turn on the lock's table. One that is idle draws, and one that is in no
  -- call sees a front. All else is made in a call, and there a mark is stored only after a look.
  abbrev pub MayMake : Both M C R → ℕ → LockTurn → Type 0
  MayMake b i (Draws j) = (b.call i ≡ None) × IsFree b j × (b.hall.crowd.phase i ≡ Wakes [])
      × (i < b.hall.crowd.seats)
  MayMake b i (Fronts j) = (b.call i ≡ None) × IsFree b j
  MayMake b i (Marks j) = (b.call i ≡ Some j) × (b.looked i ≡ true)
  MayMake b i u = b.call i ≡ Some (lock_seat u)

  -- The turn leads from one state to the other. A turn on the lock's table is one of bw_ticket's,
  -- and one on the table of places is made by a thread that is in no call of the lock. A thread
  -- calls the lock where its visit says that it enters. It does so with a seat that waits with the
  -- same ticket. The call ends when the seat is idle. In a call it glances only with a seat that
  -- waits, and only after a look.
  abbrev pub IsBothTurn : BothTurn → Both M C R → Both M C R → Type 0
  IsBothTurn (OnPlaces t) b c = (is_on_places t ≡ true) × IsTurn t b.hall c.hall
      × (b.call (maker t) ≡ None) × (c ≡ record b { hall = c.hall })
  IsBothTurn (OnLock i u) b c = IsLockTurn u b.lock c.lock × MayMake b i u × (c ≡ record b {
    lock = c.lock;
    hall = made b.hall (event_of i u);
    looked = looking b.looked i u;
  })
  IsBothTurn (Calls i j) b c = (t : ℕ) × (b.call i ≡ None) × IsFree b j × IsIn b j (Waiting t)
      × Enters b i t
      × (c ≡ record b { call = put b.call i (Some j); looked = put b.looked i false })
  IsBothTurn (Ends i) b c = (j : ℕ) × (b.call i ≡ Some j) × IsIn b j Idle
      × (c ≡ record b { call = put b.call i None })
  IsBothTurn (Glances i) b c = (j : ℕ) × (p : SeatView M C R) × (b.call i ≡ Some j)
      × (b.looked i ≡ true) × (slice_get b.lock.seats j ≡ Some (seated IsUp p))
      × (waits (ticket_of p.phase) p.phase ≡ 1) × (c ≡ b)
  IsBothTurn (WakesUp i) b c = (t : ℕ) × (b.hall.crowd.phase i ≡ Has t Asleep)
      × (c ≡ record b { hall = made b.hall (Some (SpuriousWake i)) })

  -- these turns, one after another, lead from one state to the other
  abbrev pub BothLead : Both M C R → List BothTurn → Both M C R → Type 0
  BothLead b [] c = c ≡ b
  BothLead b (t ∷ ts) c = (m : Both M C R) × IsBothTurn t b m × BothLead m ts c

-- the thread that makes a turn
abbrev pub thread_of : BothTurn → ℕ
thread_of (OnPlaces t) = maker t
thread_of (OnLock i u) = i
thread_of (Calls i j) = i
thread_of (Ends i) = i
thread_of (Glances i) = i
thread_of (WakesUp i) = i

abbrev pub is_made : Option Event → Bool
is_made None = false
is_made (Some e) = true

-- whether a turn is an event of the crowd: a call, its end, a load that changes nothing are none
abbrev pub is_event : BothTurn → Bool
is_event (OnPlaces t) = true
is_event (OnLock i u) = is_made (event_of i u)
is_event (Calls i j) = false
is_event (Ends i) = false
is_event (Glances i) = false
is_event (WakesUp i) = true

-- whether a turn is an access that a thread makes on its way: a call and its end are none, and a
-- front is no part of it
abbrev pub is_access : BothTurn → Bool
is_access (OnPlaces t) = true
is_access (OnLock i (Fronts j)) = false
is_access (OnLock i u) = true
is_access (Calls i j) = false
is_access (Ends i) = false
is_access (Glances i) = true
is_access (WakesUp i) = false

-- the thread i makes some turn of the list that a test picks
abbrev pub MakesPicked : (BothTurn → Bool) → ℕ → List BothTurn → Type 0
MakesPicked picks i [] = ⊥
MakesPicked picks i (t ∷ ts) =
    ((thread_of t ≡ i) × (picks t ≡ true)) ⊎ MakesPicked picks i ts

module _ {M C R : Type 0} where
  -- a round: each thread that is neither idle nor asleep makes a turn that a test picks
  abbrev pub IsRoundOf : (BothTurn → Bool) → Both M C R → List BothTurn → Type 0
  IsRoundOf picks b turns =
      (i : ℕ) → is_still (b.hall.crowd.phase i) ≡ false → MakesPicked picks i turns

  -- these rounds, one after another, lead from one state to the other
  abbrev pub LeadInRoundsOf : (BothTurn → Bool) → Both M C R → List (List BothTurn) → Both M C R
      → Type 0
  LeadInRoundsOf picks b [] c = c ≡ b
  LeadInRoundsOf picks b (r ∷ rs) c =
      (m : Both M C R) × BothLead b r m × IsRoundOf picks b r × LeadInRoundsOf picks m rs c

  -- the crowd has the lock's two numbers: the next ticket to be drawn, and the one that is served
  abbrev pub HasNumbers : Both M C R → Type 0
  HasNumbers b = (b.hall.crowd.next ≡ slice_index b.lock.words 0)
      × (b.hall.crowd.serving ≡ slice_index b.lock.words 1)

-- With a hint word for each seat, every list of turns on both tables is a list of events of the
-- crowd, which has the lock's numbers.
abbrev pub BothAreEvents : (M C R : Type 0) → Type 0
BothAreEvents M C R = (seats words calls : ℕ) (turns : List BothTurn) (b : Both M C R)
    → seats ≤ words → BothLead (opened_both seats words calls) turns b
    → (events : List Event) × (run (start seats words) events ≡ b.hall.crowd) × HasNumbers b

-- So after any turns the lock serves each drawn ticket within seventeen rounds for itself and for
-- each ticket before it.
abbrev pub BothServeDrawnTickets : (M C R : Type 0) → Type 0
BothServeDrawnTickets M C R = (seats words calls : ℕ) (turns : List BothTurn)
    (rounds : List (List BothTurn)) (b c : Both M C R) (ticket : ℕ)
    → seats ≤ words → BothLead (opened_both seats words calls) turns b
    → ticket < slice_index b.lock.words 0
    → 17 * (ticket + 1 - slice_index b.lock.words 1) ≤ length rounds
    → LeadInRoundsOf is_event b rounds c → ticket < slice_index c.lock.words 1

-- In each ticket one access is no event: the load by which the seat inside notes its call. So
-- eighteen rounds of accesses do what seventeen rounds of events do.
abbrev pub AccessesServeDrawnTickets : (M C R : Type 0) → Type 0
AccessesServeDrawnTickets M C R = (seats words calls : ℕ) (turns : List BothTurn)
    (rounds : List (List BothTurn)) (b c : Both M C R) (ticket : ℕ)
    → seats ≤ words → BothLead (opened_both seats words calls) turns b
    → ticket < slice_index b.lock.words 0
    → 18 * (ticket + 1 - slice_index b.lock.words 1) ≤ length rounds
    → LeadInRoundsOf is_access b rounds c → ticket < slice_index c.lock.words 1
