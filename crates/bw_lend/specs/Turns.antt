-- Runs of seats that lend themselves, wait while they are lent, and leave, turn by turn. What is
-- claimed of them: each turn is one event of the crowd.
use Rattle.std.specs.Prelude.{◌≡◌, ◌≢◌, ℕ, ◌+◌, ◌-◌, ◌*◌, ◌^◌, ◌%◌, ◌<◌, ◌≤◌, ◌⊎◌}
use Rattle.std.specs.Prelude.{Bool, true, false, List, [], ◌∷◌, Option, None, Some, map, length}
use Rattle.std.specs.Prelude.{if◌then◌else◌, ◌==◌}
use Rattle.bw_lend.specs.Crowd.{Stage, Drawn, Reading, Looking, Retracting, Parking, ParkingHeld}
use Rattle.bw_lend.specs.Crowd.{Asleep, Fetching, Entering, Phase, Has, Wakes}
use Rattle.bw_lend.specs.Crowd.{Place, Away, Posted, Claimed, Done, Back}
use Rattle.bw_lend.specs.Crowd.{Crowd, Event, put, start, moved, placed, is_possible, woken}
use Rattle.bw_lend.specs.Crowd.{happens, run, Hint, Look, Lend, StoreHint, Peek, ClaimToHelp}
use Rattle.bw_lend.specs.Crowd.{ClaimToReturn, Give, Wake}
use Rattle.bw_lend.specs.declared.task.Task.{Task}
use Rattle.bw_lend.specs.declared.task.Task.TheVariants.{ToLook, ToHint, ToWait, ToPeek}
use Rattle.bw_lend.specs.declared.task.Task.TheVariants.{ToClaim, ToHelp, ToGive}
use Rattle.bw_lend.specs.declared.task.Task.TheVariants.{ToGiveLast, ToReturn, ToWakeFirst}
use Rattle.bw_lend.specs.declared.task.Task.TheVariants.{ToWakeFrom}
use Rattle.bw_lend.specs.Bells.{IsIn, IsWith}
use Rattle.bw_lend.specs.Rule.{hint_for}
use Rattle.bw_lend.specs.Visits.{Names, places_from, phase_of, IsPlaceOf, after_peek}
use Rattle.bw_lend.specs.Visits.{after_sight}
use Rattle.bw_lend.specs.CrowdLaws.{is_still, seat_of}
use Rattle.bw_lend.specs.Waits.{MayTakeBack, MaySleep, stage_of}

-- Between two turns: the crowd, the word of each place, the words of hints, and of each owner the
-- state that it has read and the ticket that it found served, both since it last slept.
pub record Hall : Type 0 where
  pub crowd : Crowd
  pub word : ℕ → ℕ
  pub hint : ℕ → ℕ
  pub state : ℕ → Option ℕ
  pub found : ℕ → Option ℕ

-- One turn. A seat that has drawn a ticket looks whether it is served, lends itself, and stores its
-- hint. A seat that waits while it is lent reads its place, looks which ticket is served, tries to
-- take its place back, or tries to sleep. A seat that has left reads a hint, tries to claim a
-- place, gives it back, or wakes an owner. Every other turn is an event of the crowd.
pub data Turn : Type 0 where
  LooksAhead : ℕ → Turn
  LendsItself : ℕ → Turn
  StoresHint : ℕ → Turn
  Reads : ℕ → Turn
  Looks : ℕ → Turn
  TakesBack : ℕ → Turn
  Sleeps : ℕ → Turn
  Peeks : ℕ → Turn
  ClaimsToHelp : ℕ → Turn
  ClaimsToReturn : ℕ → Turn
  Gives : ℕ → Turn
  GivesLast : ℕ → Turn
  Returns : ℕ → Turn
  RousesFirst : ℕ → Turn
  Rouses : ℕ → Turn
  Makes : Event → Turn

-- the word may be that of the place: a state with its code, and the ticket of the seat there
abbrev pub Shows : ℕ → Place → Type 0
Shows word Away = word % 8 ≤ 1
Shows word (Posted t) = word ≡ t * 8 + 3
Shows word (Claimed t h) = word ≡ t * 8 + 2
Shows word (Done t h) = word ≡ t * 8 + 4
Shows word (Back t h) = word ≡ t * 8 + 5

-- the word may be that of the hint: a word that no hint was stored in is 0
abbrev pub ShowsHint : ℕ → Option Hint → Type 0
ShowsHint word None = word ≡ 0
ShowsHint word (Some hint) = (word ≡ hint_for hint.ticket hint.seat) × (hint.seat < 64)

-- whether a seat at this stage waits while it is lent, and is awake
abbrev pub is_waiting_at : Stage → Bool
is_waiting_at Reading = true
is_waiting_at Looking = true
is_waiting_at Retracting = true
is_waiting_at Parking = true
is_waiting_at ParkingHeld = true
is_waiting_at Fetching = true
is_waiting_at _ = false

abbrev pub is_waiting : Phase → Bool
is_waiting (Has t w) = is_waiting_at w
is_waiting _ = false

-- as `open_place` and `lend` leave all places
abbrev pub opened : ℕ → ℕ → Hall
opened seats words = record {
  crowd = start seats words;
  word = λ i. 1;
  hint = λ w. 0;
  state = λ i. None;
  found = λ i. None;
}

-- the crowd is now this one, and the owner i has read and found this
abbrev pub turned : Hall → ℕ → Crowd → Option ℕ → Option ℕ → Hall
turned h i s state found = record h {
  crowd = s;
  state = put h.state i state;
  found = put h.found i found;
}

-- the owner i with the ticket t has read and found this, and all places are as before
abbrev pub sees : Hall → ℕ → ℕ → Option ℕ → Option ℕ → Hall
sees h i t state found =
    turned h i (moved h.crowd i (Has t (stage_of state found t))) state found

-- where an owner with the ticket t is that has its place again, by the code that it read there: its
-- call is made, or it enters the lock
abbrev pub goes_to : ℕ → ℕ → Phase
goes_to t code = if code == 4 then Wakes [] else Has t Entering

-- the owner i with the ticket t has read the state n, and has its place again
abbrev pub taken : Hall → ℕ → ℕ → ℕ → Hall
taken h i t n = record h {
  crowd = placed h.crowd i (goes_to t (n % 8)) i Away;
  word = put h.word i 1;
  state = put h.state i None;
  found = put h.found i None;
}

-- the owner i waits with the ticket t at the stage of what it has read and found
abbrev pub Waits : Hall → ℕ → ℕ → Type 0
Waits h i t = h.crowd.phase i ≡ Has t (stage_of (h.state i) (h.found i) t)

-- the seat i is on its visit, with the ticket t, this task and the wakes that it owes, and makes at
-- most n more loads of the lock's own
abbrev pub Visits : Hall → ℕ → ℕ → ℕ → ℕ → Task → Type 0
Visits h i n t owed task = h.crowd.phase i ≡ phase_of n t owed task

-- the seat i goes on with this task
abbrev pub goes_on : Hall → ℕ → ℕ → ℕ → Task → Hall
goes_on h i t owed task = record h { crowd = moved h.crowd i (phase_of 0 t owed task) }

-- it does so, and the place j has another word
abbrev pub puts : Hall → ℕ → ℕ → ℕ → Task → ℕ → ℕ → Place → Hall
puts h i t owed task j word place = record h {
  crowd = placed h.crowd i (phase_of 0 t owed task) j place;
  word = put h.word j word;
}

-- the seat i with the ticket t waits from now on, and its hint is stored in the word of its ticket
abbrev pub stores : Hall → ℕ → ℕ → Hall
stores h i t = record h {
  crowd = record h.crowd {
    phase = put h.crowd.phase i (phase_of 0 t 0 ToWait);
    hint = put h.crowd.hint (t % h.crowd.words) (Some (record { ticket = t; seat = i }));
  };
  hint = put h.hint (t % h.crowd.words) (hint_for t i);
}

-- The seat i tries to claim the place j, for this task. The exchange compares the word with that of
-- a seat which is lent with the ticket.
abbrev pub Claims : Hall → Hall → ℕ → ℕ → ℕ → ℕ → Task → Type 0
Claims h k i t owed j task =
    ((h.word j ≡ t * 8 + 3) × (k ≡ puts h i t owed task j (t * 8 + 2) (Claimed t i)))
    ⊎ ((h.word j ≢ t * 8 + 3) × (k ≡ goes_on h i t owed (ToWakeFrom 0)))

-- whether the event, of a seat in this phase, is none of the turns of a visit
abbrev pub is_other : Event → Phase → Bool
is_other (Look i) (Has t Drawn) = false
is_other (Lend i) p = false
is_other (StoreHint i) p = false
is_other (Peek i) p = false
is_other (ClaimToHelp i) p = false
is_other (ClaimToReturn i) p = false
is_other (Give i ks) p = false
is_other (Wake i) p = false
is_other _ p = true

-- An event, by a seat that does not wait lent. It may change the words of places and hints, if each
-- still shows its place or its hint.
abbrev pub IsEvent : Event → Hall → Hall → Type 0
IsEvent e h k = (is_waiting (h.crowd.phase (seat_of e)) ≡ false)
    × (is_possible h.crowd e ≡ true) × (k.crowd ≡ happens h.crowd e)
    × ((j : ℕ) → Shows (k.word j) (k.crowd.place j))
    × ((j : ℕ) → k.crowd.place j ≡ h.crowd.place j → k.word j ≡ h.word j)
    × (k.state ≡ h.state) × (k.found ≡ h.found)
    × ((w : ℕ) → ShowsHint (k.hint w) (k.crowd.hint w))

-- The turn leads from one state to the other. A read, a look, a try to take back and a sleep are
-- made where the contracts of `PlaceWord` allow them, and do what these say. The exchange of a try
-- to take back compares the whole word with the state that was read, and a sleep the half. What was
-- read says whether the call is made. All other turns but `Makes` are made where the contracts
-- of `Visit` allow them, and do what these say.
abbrev pub IsTurn : Turn → Hall → Hall → Type 0
IsTurn (LooksAhead i) h k = (t : ℕ) × Visits h i 0 t 0 ToLook
    × (k ≡ goes_on h i t 0 (after_sight t h.crowd.serving))
IsTurn (LendsItself i) h k = (t : ℕ) × Visits h i 0 t 0 ToLook
    × (k ≡ puts h i t 0 ToHint i (t * 8 + 3) (Posted t))
IsTurn (StoresHint i) h k = (t : ℕ) × Visits h i 0 t 0 ToHint × (i < 64) × (k ≡ stores h i t)
IsTurn (Reads i) h k =
    (t : ℕ) × Waits h i t × (h.state i ≡ None) × (k ≡ sees h i t (Some (h.word i)) None)
IsTurn (Looks i) h k = (t : ℕ) × (n : ℕ) × Waits h i t × (h.state i ≡ Some n) × (n % 8 ≡ 3)
    × (h.found i ≡ None) × (k ≡ sees h i t (Some n) (Some h.crowd.serving))
IsTurn (TakesBack i) h k = (t : ℕ) × (n : ℕ) × Waits h i t × (h.state i ≡ Some n)
    × MayTakeBack (h.state i) (h.found i) t
    × (((h.word i ≡ n) × (k ≡ taken h i t n)) ⊎ ((h.word i ≢ n) × (k ≡ sees h i t None None)))
IsTurn (Sleeps i) h k = (t : ℕ) × (n : ℕ) × Waits h i t × (h.state i ≡ Some n)
    × MaySleep (h.state i) (h.found i) t
    × (((h.word i % 2 ^ 32 ≡ n % 2 ^ 32)
    × (k ≡ turned h i (moved h.crowd i (Has t Asleep)) None None))
    ⊎ ((h.word i % 2 ^ 32 ≢ n % 2 ^ 32) × (k ≡ sees h i t None None)))
IsTurn (Peeks i) h k = (n : ℕ) × (t : ℕ) × (owed : ℕ) × (found : Option ℕ)
    × Visits h i n t owed ToPeek × (0 < t) × Names (h.hint (t % h.crowd.words)) t found
    × IsPlaceOf found × (k ≡ goes_on h i t owed (after_peek found))
IsTurn (ClaimsToHelp i) h k = (t : ℕ) × (owed : ℕ) × (j : ℕ) × Visits h i 0 t owed (ToClaim j)
    × Claims h k i t owed j (ToHelp j)
IsTurn (ClaimsToReturn i) h k = (t : ℕ) × (owed : ℕ) × (j : ℕ) × Visits h i 0 t owed (ToClaim j)
    × Claims h k i t owed j (ToReturn j)
IsTurn (Gives i) h k = (n : ℕ) × (t : ℕ) × (owed : ℕ) × (j : ℕ) × (more : ℕ)
    × Visits h i n t owed (ToGive j) × (j < 64) × IsWith owed j more
    × (k ≡ puts h i (t + 1) more ToPeek j (t * 8 + 4) (Done t i))
IsTurn (GivesLast i) h k = (t : ℕ) × (owed : ℕ) × (j : ℕ) × (more : ℕ)
    × Visits h i 0 t owed (ToGiveLast j) × (j < 64) × IsWith owed j more
    × (k ≡ puts h i (t + 1) more (ToWakeFrom 0) j (t * 8 + 4) (Done t i))
IsTurn (Returns i) h k = (t : ℕ) × (owed : ℕ) × (j : ℕ) × Visits h i 0 t owed (ToReturn j)
    × (k ≡ puts h i t owed (ToWakeFirst j) j (t * 8 + 5) (Back t i))
IsTurn (RousesFirst i) h k = (t : ℕ) × (owed : ℕ) × (j : ℕ) × Visits h i 0 t owed (ToWakeFirst j)
    × (k ≡ record h { crowd = woken h.crowd i (places_from 64 0 owed) j (h.crowd.phase j) })
IsTurn (Rouses i) h k = (t : ℕ) × (owed : ℕ) × (j : ℕ) × Visits h i 0 t owed (ToWakeFrom j)
    × (j < 64) × IsIn owed j × (k ≡ record h {
      crowd = woken h.crowd i (places_from (64 - (j + 1)) (j + 1) owed) j (h.crowd.phase j);
    })
IsTurn (Makes e) h k = (is_other e (h.crowd.phase (seat_of e)) ≡ true) × IsEvent e h k

-- these turns, one after another, lead from one state to the other
abbrev pub Leads : Hall → List Turn → Hall → Type 0
Leads h [] k = k ≡ h
Leads h (t ∷ ts) k = (m : Hall) × IsTurn t h m × Leads m ts k

-- the seat that makes a turn
abbrev pub maker : Turn → ℕ
maker (LooksAhead i) = i
maker (LendsItself i) = i
maker (StoresHint i) = i
maker (Reads i) = i
maker (Looks i) = i
maker (TakesBack i) = i
maker (Sleeps i) = i
maker (Peeks i) = i
maker (ClaimsToHelp i) = i
maker (ClaimsToReturn i) = i
maker (Gives i) = i
maker (GivesLast i) = i
maker (Returns i) = i
maker (RousesFirst i) = i
maker (Rouses i) = i
maker (Makes e) = seat_of e

-- some turn of the list is of the seat i
abbrev pub MakesTurn : ℕ → List Turn → Type 0
MakesTurn i [] = ⊥
MakesTurn i (t ∷ ts) = (maker t ≡ i) ⊎ MakesTurn i ts

-- a round of turns: each seat that is neither idle nor asleep makes one
abbrev pub IsRoundOfTurns : Hall → List Turn → Type 0
IsRoundOfTurns h turns = (i : ℕ) → is_still (h.crowd.phase i) ≡ false → MakesTurn i turns

-- these rounds, one after another, lead from one state to the other
abbrev pub LeadsInRounds : Hall → List (List Turn) → Hall → Type 0
LeadsInRounds h [] k = k ≡ h
LeadsInRounds h (r ∷ rs) k =
    (m : Hall) × Leads h r m × IsRoundOfTurns h r × LeadsInRounds m rs k

-- Every list of turns is a list of as many events, each of the seat that makes the turn.
abbrev pub TurnsAreEvents : Type 0
TurnsAreEvents = (seats words : ℕ) (turns : List Turn) (h : Hall) → seats ≤ words
    → Leads (opened seats words) turns h
    → (events : List Event) × (map seat_of events ≡ map maker turns)
    × (run (start seats words) events ≡ h.crowd)

-- So after any turns each drawn ticket is left within seventeen rounds of turns for itself and for
-- each ticket before it.
abbrev pub TurnsLeaveDrawnTickets : Type 0
TurnsLeaveDrawnTickets = (seats words : ℕ) (turns : List Turn) (rounds : List (List Turn))
    (h k : Hall) (ticket : ℕ) → seats ≤ words → Leads (opened seats words) turns h
    → ticket < h.crowd.next → 17 * (ticket + 1 - h.crowd.serving) ≤ length rounds
    → LeadsInRounds h rounds k → ticket < k.crowd.serving
