-- Rounds of the waiting protocol: lists of events in which each seat that is up makes one.
use Rattle.std.specs.Prelude.{◌≡◌, ℕ, ◌+◌, ◌-◌, ◌*◌, ◌<◌, ◌≤◌, ◌⊎◌, true, false, List, [], ◌∷◌}
use Rattle.std.specs.Prelude.{length, Some, slice_get}
use Rattle.bw_wake.specs.declared.seats.Phase.{Phase}
use Rattle.bw_wake.specs.declared.seats.Event.{Event}
use Rattle.bw_wake.specs.Protocol.{WaitState, is_possible, happens, start, run}
use Rattle.bw_wake.specs.Progress.{is_still, seat_of}

-- Some event of the list is by the seat i, and is possible where it happens.
abbrev pub MakesOne : ℕ → WaitState → List Event → Type 0
MakesOne i s [] = ⊥
MakesOne i s (e ∷ es) =
    ((seat_of e ≡ i) × (is_possible s e ≡ true)) ⊎ MakesOne i (happens s e) es

-- A round: each seat that is neither idle nor asleep at its beginning makes an event. Other events
-- may come at any place: tickets are drawn, seats wake without a wake, and seats make further ones.
abbrev pub IsRound : WaitState → List Event → Type 0
IsRound s events = (i : ℕ) (p : Phase) → slice_get s.phases i ≡ Some p → is_still p ≡ false
    → MakesOne i s events

-- Each of the lists, one after another, is a round.
abbrev pub AreRounds : WaitState → List (List Event) → Type 0
AreRounds s [] = Unit {0}
AreRounds s (r ∷ rs) = IsRound s r × AreRounds (run s r) rs

-- the state after all the lists
abbrev pub run_rounds : WaitState → List (List Event) → WaitState
run_rounds s [] = s
run_rounds s (r ∷ rs) = run_rounds (run s r) rs

-- After any events, eight rounds raise the ticket that is served, if it is drawn.
abbrev pub EightRoundsRaiseServing : Type 0
EightRoundsRaiseServing =
    (seats words : ℕ) (events : List Event) (rounds : List (List Event)) → seats ≤ words
    → (run (start seats words) events).serving < (run (start seats words) events).next
    → 8 ≤ length rounds → AreRounds (run (start seats words) events) rounds
    → (run (start seats words) events).serving
    < (run_rounds (run (start seats words) events) rounds).serving

-- So each drawn ticket is left within eight rounds for itself and for each ticket before it.
abbrev pub DrawnTicketsAreServed : Type 0
DrawnTicketsAreServed =
    (seats words : ℕ) (events : List Event) (rounds : List (List Event)) (ticket : ℕ)
    → seats ≤ words → ticket < (run (start seats words) events).next
    → 8 * (ticket + 1 - (run (start seats words) events).serving) ≤ length rounds
    → AreRounds (run (start seats words) events) rounds
    → ticket < (run_rounds (run (start seats words) events) rounds).serving
