-- An accepted trace is a run of the rule, so the laws of runs hold of it.
use Rattle.std.specs.Prelude.{List, [], ◌∷◌, ◌++◌, map}
use Rattle.dispatch.specs.declared.reservation.Step.{Step}
use Rattle.dispatch.specs.declared.input.Input.{Input}
use Rattle.dispatch.specs.declared.input.Input.TheVariants as lines
use Rattle.dispatch.specs.Replay.{input_after, AllFollow, nothing_set}
use Rattle.dispatch.specs.Reservation.{Reservations}
use Rattle.dispatch.specs.Windows.{IsAtRest, IsRun}

-- the state after lines without a fault
abbrev pub after_inputs : Reservations → List Input → Reservations
after_inputs s [] = s
after_inputs s (i ∷ is) = after_inputs (input_after s i) is

-- the line is no event
abbrev pub SetsUp : Input → Type 0
SetsUp (lines.Processors n) = Unit {0}
SetsUp (lines.Slice n) = Unit {0}
SetsUp (lines.Terms q w c) = Unit {0}
SetsUp (lines.Leaf i a g inside) = Unit {0}
SetsUp (lines.Group limit burst) = Unit {0}
SetsUp (lines.Event e) = ⊥

abbrev pub AllSetUp : List Input → Type 0
AllSetUp [] = Unit {0}
AllSetUp (i ∷ is) = SetsUp i × AllSetUp is

-- An accepted trace whose events come last is a run that begins at rest.
abbrev pub TraceIsARun : Type 0
TraceIsARun = (setup : List Input) (events : List Step) → AllSetUp setup
    → AllFollow nothing_set (setup ++ map lines.Event events) →
    let s = after_inputs nothing_set setup in IsAtRest s × IsRun s events
