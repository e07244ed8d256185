-- Each event of the waiting protocol is an event of the interleaving core, or none.
use Rattle.std.specs.Prelude.{◌≡◌, ℕ, map, Option, None, Some, if◌then◌else◌}
use Rattle.bw_machine.specs.Seats.{CoreState}
use Rattle.bw_machine.specs.Seats.{start as core_start, happens as core_happens}
use Rattle.bw_machine.specs.declared.seats.Phase.{Phase as CorePhase}
use Rattle.bw_machine.specs.declared.seats.Phase.TheVariants.{Idle as CoreIdle}
use Rattle.bw_machine.specs.declared.seats.Phase.TheVariants.{Waiting as CoreWaiting}
use Rattle.bw_machine.specs.declared.seats.Phase.TheVariants.{Inside as CoreInside}
use Rattle.bw_machine.specs.declared.seats.Phase.TheVariants.{Done as CoreDone}
use Rattle.bw_machine.specs.declared.seats.CoreEvent.{CoreEvent}
use Rattle.bw_machine.specs.declared.seats.CoreEvent.TheVariants.{Take as CoreTake}
use Rattle.bw_machine.specs.declared.seats.CoreEvent.TheVariants.{Enter as CoreEnter}
use Rattle.bw_machine.specs.declared.seats.CoreEvent.TheVariants.{Apply as CoreApply}
use Rattle.bw_machine.specs.declared.seats.CoreEvent.TheVariants.{Leave as CoreLeave}
use Rattle.bw_wake.specs.declared.seats.Phase.{Phase}
use Rattle.bw_wake.specs.declared.seats.Phase.TheVariants.{Idle, Waiting, Marked, Looked, Asleep}
use Rattle.bw_wake.specs.declared.seats.Phase.TheVariants.{Inside, Done, Served, Owes, Found, Wakes}
use Rattle.bw_wake.specs.declared.seats.Event.{Event}
use Rattle.bw_wake.specs.declared.seats.Event.TheVariants.{Take, Look, Apply, Leave}
use Rattle.bw_wake.specs.Protocol.{WaitState, start, happens, is_possible}

module _ {C : Type 0} where
  -- the phase of a seat in the interleaving core, in which all calls are equal
  abbrev pub phase_in_core : C → Phase → CorePhase C
  phase_in_core call Idle = CoreIdle
  phase_in_core call (Waiting t) = CoreWaiting t call
  phase_in_core call (Marked t) = CoreWaiting t call
  phase_in_core call (Looked t) = CoreWaiting t call
  phase_in_core call (Asleep t) = CoreWaiting t call
  phase_in_core call Inside = CoreInside call
  phase_in_core call Done = CoreDone
  phase_in_core call (Served t) = CoreIdle
  phase_in_core call (Owes k n) = CoreIdle
  phase_in_core call (Found k n) = CoreIdle
  phase_in_core call (Wakes k n) = CoreIdle

  -- the event of the interleaving core that an event is, if it is one
  abbrev pub event_in_core : C → Event → Option (CoreEvent C)
  event_in_core call (Take i) = Some (CoreTake i call)
  event_in_core call (Look i) = Some (CoreEnter i)
  event_in_core call (Apply i) = Some (CoreApply i)
  event_in_core call (Leave i) = Some (CoreLeave i)
  event_in_core call _ = None

module _ {M C R : Type 0} where
  -- the interleaving core has the same tickets, and each seat is where it is in the waiting
  -- protocol
  pub record Matches (call : C) (s : WaitState) (k : CoreState M C R) : Type 0 where
    pub next : k.next ≡ s.next
    pub serving : k.serving ≡ s.serving
    pub phases : k.phases ≡ map (phase_in_core call) s.phases

  -- the interleaving core after an event, if there is one
  abbrev pub core_after : (M → ℕ → C → M) → (M → ℕ → C → R) → CoreState M C R → Option (CoreEvent C)
      → CoreState M C R
  core_after after answer k (Some e) = core_happens after answer k e
  core_after after answer k None = k

  -- they match at the start, and still do after each event, if the interleaving core has the event
  -- that it is, where it is possible
  pub record RefinesTheCore (after : M → ℕ → C → M) (answer : M → ℕ → C → R) : Type 0 where
    pub at_start : (call : C) (machine : M) (seats words : ℕ)
        → Matches call (start seats words) (core_start seats machine)
    pub each : (call : C) (s : WaitState) (k : CoreState M C R) (e : Event) → Matches call s k
        → Matches call (happens s e)
        (core_after after answer k (if is_possible s e then event_in_core call e else None))
