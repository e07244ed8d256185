-- The protocol of lent seats: a seat that waits with a ticket lends itself to whoever leaves the
-- lock, who then makes its call. One event is one access of one seat to one word. The effect of a
-- call is no part of it, and neither is the bound of a visit: at each claim the leaver may help.
use Rattle.std.specs.Prelude.{ℕ, suc, ◌+◌, ◌%◌, ◌==◌, nat_lt, Bool, true, false, List, []}
use Rattle.std.specs.Prelude.{◌∷◌, Option, None, Some, is_some, if◌then◌else◌, ◌&&◌, ◌||◌}

-- where a seat is that has a ticket
pub data Stage : Type 0 where
  -- it has drawn the ticket, and may look whether it is served
  Drawn : Stage
  -- it has lent itself in its place, and has yet to store its hint
  Hinting : Stage
  -- it loads the word of its place next
  Reading : Stage
  -- it has seen that nobody has claimed it, and looks whether its ticket is served
  Looking : Stage
  -- it has seen its ticket served, and takes itself back next
  Retracting : Stage
  -- it sleeps next, if still nobody has claimed it
  Parking : Stage
  -- it sleeps next, if who has claimed it still has it
  ParkingHeld : Stage
  -- it sleeps on the word of its place
  Asleep : Stage
  -- it has seen that it is back in its place, and takes itself next
  Fetching : Stage
  -- it has itself and has seen its ticket served, and looks once more, as the lock does
  Entering : Stage
  -- it is inside the lock, and leaves next
  Inside : Stage

-- the errand of a seat that has left the lock
pub data Errand : Type 0 where
  -- it makes at most so many loads of the lock's own, and then looks for the next ticket's hint
  Peeking : ℕ → Errand
  -- it has seen the hint of this seat, and claims it next
  Claiming : ℕ → Errand
  -- it has claimed this seat, and looks whether its ticket is served, as the lock does
  EnteringFor : ℕ → Errand
  -- it is inside the lock for this seat, and leaves for it next
  Helping : ℕ → Errand
  -- it has left for this seat, makes at most so many loads of the lock's own, and gives it back
  Giving : ℕ → ℕ → Errand
  -- it has left for this seat and found no later ticket drawn, and gives it back next
  GivingLast : ℕ → Errand
  -- it has claimed this seat, and gives it back next without its call made
  Returning : ℕ → Errand

-- Where a seat is. A seat that has left has a ticket that it works on, the seats that it owes a
-- wake, and an errand. A seat that owes no wake and does nothing else is idle.
pub data Phase : Type 0 where
  Has : ℕ → Stage → Phase
  Leaves : ℕ → List ℕ → Errand → Phase
  Wakes : List ℕ → Phase

-- The word of a seat's place: its ticket, and of a seat that was claimed by whom.
pub data Place : Type 0 where
  -- the seat is with its owner
  Away : Place
  -- the seat is lent, and nobody has claimed it
  Posted : ℕ → Place
  -- the seat is with who claimed it
  Claimed : ℕ → ℕ → Place
  -- the seat is back, and its call is made
  Done : ℕ → ℕ → Place
  -- the seat is back, and its call is not made
  Back : ℕ → ℕ → Place

-- A hint: the ticket, and the seat that lent itself with it. No rule of the lock needs it.
pub record Hint : Type 0 where
  pub ticket : ℕ
  pub seat : ℕ

-- The next ticket to be drawn and the one that is served; the number of seats, and of hint words;
-- which seat drew each ticket; and the phase, the place and the hint by their numbers.
pub record Crowd : Type 0 where
  pub next : ℕ
  pub serving : ℕ
  pub seats : ℕ
  pub words : ℕ
  pub owner : ℕ → ℕ
  pub phase : ℕ → Phase
  pub place : ℕ → Place
  pub hint : ℕ → Option Hint

-- one access
pub data Event : Type 0 where
  Take : ℕ → Event
  Look : ℕ → Event
  Lend : ℕ → Event
  StoreHint : ℕ → Event
  Read : ℕ → Event
  Retract : ℕ → Event
  Park : ℕ → Event
  SpuriousWake : ℕ → Event
  Fetch : ℕ → Event
  Leave : ℕ → Event
  Glance : ℕ → Event
  LookBehind : ℕ → Event
  Peek : ℕ → Event
  ClaimToHelp : ℕ → Event
  ClaimToReturn : ℕ → Event
  Give : ℕ → List ℕ → Event
  Wake : ℕ → Event

-- the greatest number of loads of the lock's own words after each ticket that is left
abbrev pub own_loads : ℕ
own_loads = 4

module _ {A : Type 0} where
  -- the function with another value at one number
  abbrev pub put : (ℕ → A) → ℕ → A → ℕ → A
  put f i x j = if j == i then x else f j

-- nobody has a ticket, and all seats are with their owners
abbrev pub start : ℕ → ℕ → Crowd
start seats words = record {
  next = 0;
  serving = 0;
  seats = seats;
  words = words;
  owner = λ t. 0;
  phase = λ i. Wakes [];
  place = λ i. Away;
  hint = λ w. None;
}

-- the state with the seat i elsewhere
abbrev pub moved : Crowd → ℕ → Phase → Crowd
moved s i p = record s { phase = put s.phase i p }

-- the state with the seat i elsewhere, and another word in the place of j
abbrev pub placed : Crowd → ℕ → Phase → ℕ → Place → Crowd
placed s i p j w = record s { phase = put s.phase i p; place = put s.place j w }

-- the seat i draws the next ticket; here and below, there is no state where the event is not
-- possible
abbrev pub take_by : Crowd → ℕ → Phase → Option Crowd
take_by s i (Wakes []) = if nat_lt i s.seats then Some (record s {
  next = s.next + 1;
  owner = put s.owner s.next i;
  phase = put s.phase i (Has s.next Drawn);
}) else None
take_by s i _ = None

-- the seat i looks whether its ticket is served, or that of the seat which it has claimed
abbrev pub look_by : Crowd → ℕ → Phase → Option Crowd
look_by s i (Has t Drawn) = Some (moved s i (Has t (if t == s.serving then Entering else Drawn)))
look_by s i (Has t Entering) =
    Some (moved s i (Has t (if t == s.serving then Inside else Entering)))
look_by s i (Leaves x js (EnteringFor j)) =
    Some (moved s i (Leaves x js (if x == s.serving then Helping j else EnteringFor j)))
look_by s i (Has t Looking) =
    Some (moved s i (Has t (if t == s.serving then Retracting else Parking)))
look_by s i _ = None

-- the seat i lends itself in its place
abbrev pub lend_by : Crowd → ℕ → Phase → Option Crowd
lend_by s i (Has t Drawn) = Some (placed s i (Has t Hinting) i (Posted t))
lend_by s i _ = None

-- the seat i stores its hint
abbrev pub store_hint_by : Crowd → ℕ → Phase → Option Crowd
store_hint_by s i (Has t Hinting) = Some (record s {
  phase = put s.phase i (Has t Reading);
  hint = put s.hint (t % s.words) (Some (record { ticket = t; seat = i }));
})
store_hint_by s i _ = None

-- the stage of a seat that has loaded the word of its place
abbrev pub seen : Place → Stage
seen Away = Reading
seen (Posted t) = Looking
seen (Claimed t h) = ParkingHeld
seen (Done t h) = Fetching
seen (Back t h) = Fetching

-- the seat i loads the word of its place
abbrev pub read_by : Crowd → ℕ → Phase → Option Crowd
read_by s i (Has t Reading) = Some (moved s i (Has t (seen (s.place i))))
read_by s i _ = None

-- the seat i, lent with the ticket t, takes itself back unless it is claimed
abbrev pub retracted : Crowd → ℕ → ℕ → Place → Crowd
retracted s i t (Posted u) = placed s i (Has t Entering) i Away
retracted s i t _ = moved s i (Has t Reading)

abbrev pub retract_by : Crowd → ℕ → Phase → Option Crowd
retract_by s i (Has t Retracting) = Some (retracted s i t (s.place i))
retract_by s i _ = None

-- whether nobody has claimed the seat
abbrev pub is_posted : Place → Bool
is_posted (Posted t) = true
is_posted _ = false

-- whether who claimed the seat has it
abbrev pub is_held : Place → Bool
is_held (Claimed t h) = true
is_held _ = false

-- the seat i sleeps if the word of its place is what it saw, and else reads it again
abbrev pub park_by : Crowd → ℕ → Phase → Option Crowd
park_by s i (Has t Parking) =
    Some (moved s i (Has t (if is_posted (s.place i) then Asleep else Reading)))
park_by s i (Has t ParkingHeld) =
    Some (moved s i (Has t (if is_held (s.place i) then Asleep else Reading)))
park_by s i _ = None

-- the seat i wakes without a wake
abbrev pub spurious_wake_by : Crowd → ℕ → Phase → Option Crowd
spurious_wake_by s i (Has t Asleep) = Some (moved s i (Has t Reading))
spurious_wake_by s i _ = None

-- where the seat goes that takes itself from its place: with its call made it is idle, and else it
-- enters the lock
abbrev pub fetched : ℕ → Place → Phase
fetched t (Back u h) = Has t Entering
fetched t _ = Wakes []

-- the seat i takes itself from its place
abbrev pub fetch_by : Crowd → ℕ → Phase → Option Crowd
fetch_by s i (Has t Fetching) = Some (placed s i (fetched t (s.place i)) i Away)
fetch_by s i _ = None

-- the seat i lets the next ticket be served, for itself or for the seat that it helps
abbrev pub leave_by : Crowd → ℕ → Phase → Option Crowd
leave_by s i (Has t Inside) = Some (record s {
  serving = s.serving + 1;
  phase = put s.phase i (Leaves (t + 1) [] (Peeking own_loads));
})
leave_by s i (Leaves x js (Helping j)) = Some (record s {
  serving = s.serving + 1;
  phase = put s.phase i (Leaves x js (Giving j own_loads));
})
leave_by s i _ = None

-- the seat i makes a load of the lock's own, which changes nothing
abbrev pub glance_by : Crowd → ℕ → Phase → Option Crowd
glance_by s i (Leaves x js (Peeking (suc k))) = Some (moved s i (Leaves x js (Peeking k)))
glance_by s i (Leaves x js (Giving j (suc k))) = Some (moved s i (Leaves x js (Giving j k)))
glance_by s i _ = None

-- The seat i looks whether the ticket that it works on next was drawn, by one of these loads. If it
-- was not, the seat looks for no hint: that ticket's seat will find its ticket served.
abbrev pub look_behind_by : Crowd → ℕ → Phase → Option Crowd
look_behind_by s i (Leaves x js (Peeking (suc k))) =
    Some (moved s i (if nat_lt x s.next then Leaves x js (Peeking k) else Wakes js))
look_behind_by s i (Leaves x js (Giving j (suc k))) =
    Some (moved s i (Leaves x js (if nat_lt (x + 1) s.next then Giving j k else GivingLast j)))
look_behind_by s i _ = None

-- the phase of a seat that has looked for the hint of the ticket x
abbrev pub hinted : ℕ → List ℕ → Option Hint → Phase
hinted x js (Some h) = if h.ticket == x then Leaves x js (Claiming h.seat) else Wakes js
hinted x js None = Wakes js

-- the seat i looks for the hint of the ticket that it works on
abbrev pub peek_by : Crowd → ℕ → Phase → Option Crowd
peek_by s i (Leaves x js (Peeking k)) =
    Some (moved s i (hinted x js (s.hint (x % s.words))))
peek_by s i _ = None

-- whether the seat is lent with the ticket x, and nobody has claimed it
abbrev pub is_posted_with : ℕ → Place → Bool
is_posted_with x (Posted t) = t == x
is_posted_with x _ = false

-- the seat i claims the seat whose hint it has seen, for this errand, if that one is still lent
abbrev pub claim_by : (ℕ → Errand) → Crowd → ℕ → Phase → Option Crowd
claim_by e s i (Leaves x js (Claiming j)) =
    Some (if is_posted_with x (s.place j) then placed s i (Leaves x js (e j)) j (Claimed x i)
    else moved s i (Wakes js))
claim_by e s i _ = None

-- whether the number is in the list
abbrev pub is_in : ℕ → List ℕ → Bool
is_in i [] = false
is_in i (j ∷ js) = (j == i) || is_in i js

-- whether all of the first list are in the second
abbrev pub are_in : List ℕ → List ℕ → Bool
are_in [] ks = true
are_in (j ∷ js) ks = is_in j ks && are_in js ks

-- The seat i gives back the seat that it has claimed, and owes it a wake. It makes its wakes in any
-- order, as the list ks says, which has all of them. But one whose call is not made is woken first,
-- since its ticket is served.
abbrev pub give_by : Crowd → ℕ → List ℕ → Phase → Option Crowd
give_by s i ks (Leaves x js (Giving j k)) = if are_in (j ∷ js) ks
    then Some (placed s i (Leaves (x + 1) ks (Peeking 0)) j (Done x i)) else None
give_by s i ks (Leaves x js (GivingLast j)) =
    if are_in (j ∷ js) ks then Some (placed s i (Wakes ks) j (Done x i)) else None
give_by s i ks (Leaves x js (Returning j)) =
    if are_in js ks then Some (placed s i (Wakes (j ∷ ks)) j (Back x i)) else None
give_by s i ks _ = None

-- the seat i, which owes the wakes of js after this one, wakes the seat j, if that one sleeps
abbrev pub woken : Crowd → ℕ → List ℕ → ℕ → Phase → Crowd
woken s i js j (Has t Asleep) =
    record s { phase = put (put s.phase j (Has t Reading)) i (Wakes js) }
woken s i js j _ = moved s i (Wakes js)

-- the seat i makes the first wake that it owes
abbrev pub wake_by : Crowd → ℕ → Phase → Option Crowd
wake_by s i (Wakes (j ∷ js)) = Some (woken s i js j (s.phase j))
wake_by s i _ = None

-- the state after an event, or none where the event is not possible
abbrev pub after : Crowd → Event → Option Crowd
after s (Take i) = take_by s i (s.phase i)
after s (Look i) = look_by s i (s.phase i)
after s (Lend i) = lend_by s i (s.phase i)
after s (StoreHint i) = store_hint_by s i (s.phase i)
after s (Read i) = read_by s i (s.phase i)
after s (Retract i) = retract_by s i (s.phase i)
after s (Park i) = park_by s i (s.phase i)
after s (SpuriousWake i) = spurious_wake_by s i (s.phase i)
after s (Fetch i) = fetch_by s i (s.phase i)
after s (Leave i) = leave_by s i (s.phase i)
after s (Glance i) = glance_by s i (s.phase i)
after s (LookBehind i) = look_behind_by s i (s.phase i)
after s (Peek i) = peek_by s i (s.phase i)
after s (ClaimToHelp i) = claim_by EnteringFor s i (s.phase i)
after s (ClaimToReturn i) = claim_by Returning s i (s.phase i)
after s (Give i ks) = give_by s i ks (s.phase i)
after s (Wake i) = wake_by s i (s.phase i)

-- the state, or the one that was where there is none
abbrev pub or_same : Crowd → Option Crowd → Crowd
or_same s (Some t) = t
or_same s None = s

-- whether an event can happen
abbrev pub is_possible : Crowd → Event → Bool
is_possible s e = is_some (after s e)

-- one event; one that is not possible changes nothing
abbrev pub happens : Crowd → Event → Crowd
happens s e = or_same s (after s e)

-- a whole list of events
abbrev pub run : Crowd → List Event → Crowd
run s [] = s
run s (e ∷ es) = run (happens s e) es
