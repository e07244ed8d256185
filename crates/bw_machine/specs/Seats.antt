-- The interleaving core of a machine: seats draw tickets, enter, apply their calls and leave, in
-- any order. `after` is the machine after a call by a seat, and `answer` is its reply.
use Rattle.std.specs.Prelude.{ℕ, ◌+◌, ◌==◌, List, [], ◌∷◌, ◌++◌, replicate, Bool, true, false}
use Rattle.std.specs.Prelude.{Option, None, Some, slice_get, slice_set, if◌then◌else◌}
use Rattle.bw_machine.specs.declared.history.Entry.{Entry}
use Rattle.bw_machine.specs.declared.seats.Phase.{Phase}
use Rattle.bw_machine.specs.declared.seats.Phase.TheVariants.{Idle, Waiting, Inside, Done}
use Rattle.bw_machine.specs.declared.seats.CoreEvent.{CoreEvent}
use Rattle.bw_machine.specs.declared.seats.CoreEvent.TheVariants.{Take, Enter, Apply, Leave}
use Rattle.bw_machine.specs.History.{entry}

-- the core of a machine M with calls C and replies R
pub record CoreState (M C R : Type 0) : Type 0 where
  pub next : ℕ
  pub serving : ℕ
  pub phases : List (Phase C)
  pub machine : M
  pub history : List (Entry C R)

module _ {C : Type 0} where
  -- whether the seat's own ticket is served, so that it may enter
  abbrev pub may_enter : ℕ → Option (Phase C) → Bool
  may_enter serving (Some (Waiting number call)) = number == serving
  may_enter serving (Some Idle) = false
  may_enter serving (Some (Inside call)) = false
  may_enter serving (Some Done) = false
  may_enter serving None = false

  -- whether the seat may take a ticket
  abbrev pub is_idle : Option (Phase C) → Bool
  is_idle (Some Idle) = true
  is_idle (Some (Waiting number call)) = false
  is_idle (Some (Inside call)) = false
  is_idle (Some Done) = false
  is_idle None = false

  -- whether the seat may make its call
  abbrev pub is_inside : Option (Phase C) → Bool
  is_inside (Some (Inside call)) = true
  is_inside (Some Idle) = false
  is_inside (Some (Waiting number call)) = false
  is_inside (Some Done) = false
  is_inside None = false

  -- whether the seat may leave
  abbrev pub is_done : Option (Phase C) → Bool
  is_done (Some Done) = true
  is_done (Some Idle) = false
  is_done (Some (Waiting number call)) = false
  is_done (Some (Inside call)) = false
  is_done None = false

module _ {M C R : Type 0} where
  -- nobody has a ticket, and nothing was called
  abbrev pub start : ℕ → M → CoreState M C R
  start seats m =
      record { next = 0; serving = 0; phases = replicate seats Idle; machine = m; history = [] }

  -- whether the event can happen; an unknown seat has none
  abbrev pub is_possible : CoreState M C R → CoreEvent C → Bool
  is_possible s (Take seat call) = is_idle (slice_get s.phases seat)
  is_possible s (Enter seat) = may_enter s.serving (slice_get s.phases seat)
  is_possible s (Apply seat) = is_inside (slice_get s.phases seat)
  is_possible s (Leave seat) = is_done (slice_get s.phases seat)

  -- the core after Enter, by the seat's phase
  abbrev pub entered : CoreState M C R → ℕ → Option (Phase C) → CoreState M C R
  entered s seat (Some (Waiting number call)) =
      if number == s.serving then record s { phases = slice_set s.phases seat (Inside call) } else s
  entered s seat (Some Idle) = s
  entered s seat (Some (Inside call)) = s
  entered s seat (Some Done) = s
  entered s seat None = s

  -- the core after Apply, by the seat's phase
  abbrev pub applied : (M → ℕ → C → M) → (M → ℕ → C → R) → CoreState M C R → ℕ → Option (Phase C)
      → CoreState M C R
  applied after answer s seat (Some (Inside call)) = record s {
    phases = slice_set s.phases seat Done;
    machine = after s.machine seat call;
    history = s.history ++ entry seat call (answer s.machine seat call) ∷ [];
  }
  applied after answer s seat (Some Idle) = s
  applied after answer s seat (Some (Waiting number call)) = s
  applied after answer s seat (Some Done) = s
  applied after answer s seat None = s

  -- one event; one that is not possible changes nothing
  abbrev pub happens : (M → ℕ → C → M) → (M → ℕ → C → R) → CoreState M C R → CoreEvent C
      → CoreState M C R
  happens after answer s (Take seat call) =
      if is_idle (slice_get s.phases seat)
      then record s { next = s.next + 1; phases = slice_set s.phases seat (Waiting s.next call) }
      else s
  happens after answer s (Enter seat) = entered s seat (slice_get s.phases seat)
  happens after answer s (Apply seat) = applied after answer s seat (slice_get s.phases seat)
  happens after answer s (Leave seat) =
      if is_done (slice_get s.phases seat)
      then record s { serving = s.serving + 1; phases = slice_set s.phases seat Idle }
      else s

  -- a whole schedule
  abbrev pub run : (M → ℕ → C → M) → (M → ℕ → C → R) → CoreState M C R → List (CoreEvent C)
      → CoreState M C R
  run after answer s [] = s
  run after answer s (e ∷ es) = run after answer (happens after answer s e) es

  -- the seat and the call of each Take of the schedule that was possible, in order: the one at k
  -- drew ticket k
  abbrev pub takes : (M → ℕ → C → M) → (M → ℕ → C → R) → CoreState M C R → List (CoreEvent C)
      → List (ℕ × C)
  takes after answer s [] = []
  takes after answer s (Take seat call ∷ es) =
      (if is_idle (slice_get s.phases seat) then (seat, call) ∷ [] else [])
      ++ takes after answer (happens after answer s (Take seat call)) es
  takes after answer s (Enter seat ∷ es) =
      takes after answer (happens after answer s (Enter seat)) es
  takes after answer s (Apply seat ∷ es) =
      takes after answer (happens after answer s (Apply seat)) es
  takes after answer s (Leave seat ∷ es) =
      takes after answer (happens after answer s (Leave seat)) es
