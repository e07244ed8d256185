-- Progress of the served ticket: a few events of seats that are awake raise it.
use Rattle.std.specs.Prelude.{◌≡◌, ℕ, ◌+◌, ◌<◌, ◌≤◌, true, false, List, [], ◌∷◌, length, Some}
use Rattle.std.specs.Prelude.{slice_get}
use Rattle.bw_wake.specs.declared.seats.Phase.{Phase}
use Rattle.bw_wake.specs.declared.seats.Event.{Event}
use Rattle.bw_wake.specs.Protocol.{WaitState, is_possible, happens, start, run}
use Rattle.bw_wake.specs.Progress.{is_still, seat_of}

-- The event is possible, and its seat is neither idle nor asleep: so no ticket is drawn, and no
-- seat wakes without a wake.
abbrev pub IsByAwake : WaitState → Event → Type 0
IsByAwake s e = (p : Phase) × (slice_get s.phases (seat_of e) ≡ Some p) × (is_still p ≡ false)
    × (is_possible s e ≡ true)

-- Each of these events, one after another, is possible and is by such a seat.
abbrev pub AreByAwake : WaitState → List Event → Type 0
AreByAwake s [] = Unit {0}
AreByAwake s (e ∷ es) = IsByAwake s e × AreByAwake (happens s e) es

-- Some list of at most n such events raises the ticket that is served by one.
abbrev pub CanRaise : ℕ → WaitState → Type 0
CanRaise n s = (events : List Event) × (length events ≤ n) × AreByAwake s events
    × ((run s events).serving ≡ s.serving + 1)

-- With a wake word for each seat, after any list of events, seven such events are enough to raise
-- the ticket that is served, if it is drawn.
abbrev pub SevenEventsRaiseServing : Type 0
SevenEventsRaiseServing = (seats words : ℕ) (events : List Event) → seats ≤ words
    → (run (start seats words) events).serving < (run (start seats words) events).next
    → CanRaise 7 (run (start seats words) events)
