-- Rounds of lent seats: lists of events in which each seat that is awake makes one.
use Rattle.std.specs.Prelude.{◌≡◌, ℕ, ◌+◌, ◌-◌, ◌*◌, ◌<◌, ◌≤◌, ◌⊎◌, true, false, List, [], ◌∷◌}
use Rattle.std.specs.Prelude.{length}
use Rattle.bw_lend.specs.Crowd.{Crowd, Event, is_possible, happens, run, start}
use Rattle.bw_lend.specs.CrowdLaws.{is_still, seat_of}

-- Some event of the list is by the seat i, and is possible where it happens.
abbrev pub MakesOne : ℕ → Crowd → List Event → Type 0
MakesOne i s [] = ⊥
MakesOne i s (e ∷ es) =
    ((seat_of e ≡ i) × (is_possible s e ≡ true)) ⊎ MakesOne i (happens s e) es

-- A round: each seat that is neither idle nor asleep at its beginning makes an event. Other events
-- may come at any place: tickets are drawn, seats wake without a wake, and seats make further ones.
abbrev pub IsRound : Crowd → List Event → Type 0
IsRound s events = (i : ℕ) → is_still (s.phase i) ≡ false → MakesOne i s events

-- Each of the lists, one after another, is a round.
abbrev pub AreRounds : Crowd → List (List Event) → Type 0
AreRounds s [] = Unit {0}
AreRounds s (r ∷ rs) = IsRound s r × AreRounds (run s r) rs

-- the state after all the lists
abbrev pub run_rounds : Crowd → List (List Event) → Crowd
run_rounds s [] = s
run_rounds s (r ∷ rs) = run_rounds (run s r) rs

-- After any events, seventeen rounds raise the ticket that is served, if it is drawn.
abbrev pub SeventeenRoundsRaiseServing : Type 0
SeventeenRoundsRaiseServing =
    (seats words : ℕ) (events : List Event) (rounds : List (List Event)) → seats ≤ words
    → (run (start seats words) events).serving < (run (start seats words) events).next
    → 17 ≤ length rounds → AreRounds (run (start seats words) events) rounds
    → (run (start seats words) events).serving
    < (run_rounds (run (start seats words) events) rounds).serving

-- So each drawn ticket is left within seventeen rounds for itself and for each ticket before it.
abbrev pub DrawnTicketsAreLeft : Type 0
DrawnTicketsAreLeft =
    (seats words : ℕ) (events : List Event) (rounds : List (List Event)) (ticket : ℕ)
    → seats ≤ words → ticket < (run (start seats words) events).next
    → 17 * (ticket + 1 - (run (start seats words) events).serving) ≤ length rounds
    → AreRounds (run (start seats words) events) rounds
    → ticket < (run_rounds (run (start seats words) events) rounds).serving
