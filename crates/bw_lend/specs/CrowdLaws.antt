-- The claims about lent seats: no wake is lost, none is stuck, a seat that is awake can make an
-- event, and each ticket is left in its turn.
use Rattle.std.specs.Prelude.{◌≡◌, ℕ, ◌+◌, ◌<◌, ◌≤◌, ◌⊎◌, Bool, true, false, List, [], ◌∷◌}
use Rattle.bw_lend.specs.Crowd.{Asleep, Inside}
use Rattle.bw_lend.specs.Crowd.{Peeking, Claiming, EnteringFor, Helping, Giving, GivingLast}
use Rattle.bw_lend.specs.Crowd.{Returning, Phase, Has, Leaves, Wakes, Place, Away, Posted}
use Rattle.bw_lend.specs.Crowd.{Claimed, Done, Back}
use Rattle.bw_lend.specs.Crowd.{Crowd, Event, Take, Look, Lend, StoreHint, Read, Retract, Park}
use Rattle.bw_lend.specs.Crowd.{SpuriousWake, Fetch, Leave, Glance, LookBehind, Peek, ClaimToHelp}
use Rattle.bw_lend.specs.Crowd.{ClaimToReturn, Give, Wake, is_possible, run, start}

-- the seat i is one of them
abbrev pub IsIn : ℕ → List ℕ → Type 0
IsIn i [] = ⊥
IsIn i (j ∷ js) = (j ≡ i) ⊎ IsIn i js

-- the phase is of a seat that owes the seat i a wake
abbrev pub Notes : Phase → ℕ → Type 0
Notes (Has t w) i = ⊥
Notes (Leaves x js e) i = IsIn i js
Notes (Wakes js) i = IsIn i js

-- it wakes the seat i next
abbrev pub WakesFirst : Phase → ℕ → Type 0
WakesFirst (Wakes (j ∷ js)) i = j ≡ i
WakesFirst _ i = ⊥

-- it has claimed the seat i with the ticket t, where v is served
abbrev pub Holds : ℕ → Phase → ℕ → ℕ → Type 0
Holds v (Leaves x js (EnteringFor j)) t i = (x ≡ t) × (j ≡ i) × (t ≡ v)
Holds v (Leaves x js (Helping j)) t i = (x ≡ t) × (j ≡ i) × (t ≡ v)
Holds v (Leaves x js (Returning j)) t i = (x ≡ t) × (j ≡ i) × (t ≡ v)
Holds v (Leaves x js (Giving j k)) t i = (x ≡ t) × (j ≡ i) × (t < v)
Holds v (Leaves x js (GivingLast j)) t i = (x ≡ t) × (j ≡ i) × (t < v)
Holds v _ t i = ⊥

-- it will look for the hint of the ticket t, or has seen the one of the seat i
abbrev pub Comes : Phase → ℕ → ℕ → Type 0
Comes (Leaves x js (Peeking k)) t i = x ≡ t
Comes (Leaves x js (Claiming j)) t i = (x ≡ t) × (j ≡ i)
Comes (Leaves x js (Giving j k)) t i = x + 1 ≡ t
Comes _ t i = ⊥

-- some seat does
abbrev pub SomeoneComes : Crowd → ℕ → ℕ → Type 0
SomeoneComes s t i = (h : ℕ) × Comes (s.phase h) t i

-- The wake under way for the seat i, which sleeps with the ticket t, by the word of its place.
-- While nobody has claimed it, its ticket is not left; if it is served, someone comes. Who has
-- claimed it holds it. Once it is back, who gave it back owes it a wake; if its call is not made,
-- that wake is the next.
abbrev pub WakeIsUnderWay : Crowd → ℕ → ℕ → Place → Type 0
WakeIsUnderWay s i t Away = ⊥
WakeIsUnderWay s i t (Posted u) = (s.serving ≤ t) × (t ≡ s.serving → SomeoneComes s t i)
WakeIsUnderWay s i t (Claimed u h) = Holds s.serving (s.phase h) t i
WakeIsUnderWay s i t (Done u h) = (t < s.serving) × Notes (s.phase h) i
WakeIsUnderWay s i t (Back u h) = (t ≡ s.serving) × WakesFirst (s.phase h) i

-- with a hint word for each seat, whatever has happened, a seat that sleeps has its wake under way
abbrev pub NoWakeIsLost : Type 0
NoWakeIsLost = (seats words : ℕ) (events : List Event) (i t : ℕ) → seats ≤ words
    → (run (start seats words) events).phase i ≡ Has t Asleep
    → WakeIsUnderWay (run (start seats words) events) i t
    ((run (start seats words) events).place i)

-- whether a seat makes no step of its own: it has no ticket and owes nothing, or sleeps
abbrev pub is_still : Phase → Bool
is_still (Wakes []) = true
is_still (Has t Asleep) = true
is_still _ = false

-- with a hint word for each seat, whatever has happened, some seat is awake if a ticket is drawn
-- and not left
abbrev pub NoneIsStuck : Type 0
NoneIsStuck = (seats words : ℕ) (events : List Event) → seats ≤ words
    → (run (start seats words) events).serving < (run (start seats words) events).next
    → (i : ℕ) × (is_still ((run (start seats words) events).phase i) ≡ false)

-- the seat that makes an event
abbrev pub seat_of : Event → ℕ
seat_of (Take i) = i
seat_of (Look i) = i
seat_of (Lend i) = i
seat_of (StoreHint i) = i
seat_of (Read i) = i
seat_of (Retract i) = i
seat_of (Park i) = i
seat_of (SpuriousWake i) = i
seat_of (Fetch i) = i
seat_of (Leave i) = i
seat_of (Glance i) = i
seat_of (LookBehind i) = i
seat_of (Peek i) = i
seat_of (ClaimToHelp i) = i
seat_of (ClaimToReturn i) = i
seat_of (Give i ks) = i
seat_of (Wake i) = i

-- the seat i can make an event
abbrev pub CanStep : Crowd → ℕ → Type 0
CanStep s i = (e : Event) × (seat_of e ≡ i) × (is_possible s e ≡ true)

-- in every state, a seat that is not still can make an event: it waits for no other
abbrev pub AwakeSeatsCanStep : Type 0
AwakeSeatsCanStep = (s : Crowd) (i : ℕ) → is_still (s.phase i) ≡ false → CanStep s i

-- the seat i is inside the lock for the seat that drew the ticket t
abbrev pub IsInsideFor : Crowd → ℕ → ℕ → ℕ → Phase → Type 0
IsInsideFor s i owner t (Has u Inside) = (u ≡ t) × (i ≡ owner)
IsInsideFor s i owner t (Leaves x js (Helping j)) = (x ≡ t) × (j ≡ owner)
IsInsideFor s i owner t _ = ⊥

-- whether the phase is of a seat that is inside the lock
abbrev pub is_inside : Phase → Bool
is_inside (Has t Inside) = true
is_inside (Leaves x js (Helping j)) = true
is_inside _ = false

-- with a hint word for each seat, whatever has happened, who is inside the lock is there with the
-- ticket that is served, for the seat that drew it
abbrev pub OnlyTheServedTicketIsInside : Type 0
OnlyTheServedTicketIsInside = (seats words : ℕ) (events : List Event) (i : ℕ) → seats ≤ words
    → is_inside ((run (start seats words) events).phase i) ≡ true
    → IsInsideFor (run (start seats words) events) i
    ((run (start seats words) events).owner (run (start seats words) events).serving)
    (run (start seats words) events).serving ((run (start seats words) events).phase i)

-- at most one seat is inside
abbrev pub AtMostOneIsInside : Type 0
AtMostOneIsInside = (seats words : ℕ) (events : List Event) (i j : ℕ) → seats ≤ words
    → is_inside ((run (start seats words) events).phase i) ≡ true
    → is_inside ((run (start seats words) events).phase j) ≡ true → i ≡ j
