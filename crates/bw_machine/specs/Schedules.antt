-- The state of a core after every schedule: at most one seat is in the lock, and entry k of the
-- history is made under ticket k (ticket order).
use Rattle.std.specs.Prelude.{◌≡◌, ℕ, ◌+◌, ◌==◌, ◌≤◌, List, [], ◌∷◌, ◌++◌, length, map, take, Bool}
use Rattle.std.specs.Prelude.{true, false, Option, None, Some, slice_get, if◌then◌else◌}
use Rattle.std.specs.List.{count_by}
use Rattle.bw_machine.specs.declared.history.Entry.{Entry}
use Rattle.bw_machine.specs.declared.seats.Phase.{Phase}
use Rattle.bw_machine.specs.declared.seats.Phase.TheVariants.{Idle, Waiting, Inside, Done}
use Rattle.bw_machine.specs.History.{replay, IsLegal, own}
use Rattle.bw_machine.specs.Seats.{CoreState}

module _ {C : Type 0} where
  -- whether the seat is inside or done
  abbrev pub is_in_lock : Phase C → Bool
  is_in_lock Idle = false
  is_in_lock (Waiting number call) = false
  is_in_lock (Inside call) = true
  is_in_lock Done = true

  -- whether the seat has made its call and not left
  abbrev pub has_called : Phase C → Bool
  has_called Idle = false
  has_called (Waiting number call) = false
  has_called (Inside call) = false
  has_called Done = true

  -- whether the seat has begun a call and not made it
  abbrev pub is_on_its_way : Phase C → Bool
  is_on_its_way Idle = false
  is_on_its_way (Waiting number call) = true
  is_on_its_way (Inside call) = true
  is_on_its_way Done = false

  -- the call that a seat has begun and not made
  abbrev pub begun : Option (Phase C) → List C
  begun None = []
  begun (Some Idle) = []
  begun (Some (Waiting number call)) = call ∷ []
  begun (Some (Inside call)) = call ∷ []
  begun (Some Done) = []

  -- the calls of the tickets that a seat took, in order
  abbrev pub calls_taken : ℕ → List (ℕ × C) → List C
  calls_taken seat [] = []
  calls_taken seat (t ∷ ts) = if t.0 == seat then t.1 ∷ calls_taken seat ts else calls_taken seat ts

module _ {C R : Type 0} where
  -- the calls of the entries
  abbrev pub calls_of : List (Entry C R) → List C
  calls_of es = map (λ e. e.call) es

  -- the seat and the call of each entry
  abbrev pub made_by : List (Entry C R) → List (ℕ × C)
  made_by es = map (λ e. (e.seat, e.call)) es

-- a core whose seats drew these tickets, from a machine m
pub record IsOneThread {M C R : Type 0} (after : M → ℕ → C → M) (answer : M → ℕ → C → R) (m : M)
    (tickets : List (ℕ × C)) (s : CoreState M C R) : Type 0 where
  pub one_in_lock : count_by is_in_lock s.phases ≤ 1
  pub next : s.next ≡ length tickets
  pub entries : length s.history ≡ s.serving + count_by has_called s.phases
  pub on_the_way : s.next ≡ length s.history + count_by is_on_its_way s.phases
  -- entry k was made under ticket k
  pub ticket_order : made_by s.history ≡ take (length s.history) tickets
  pub legal : IsLegal after answer m s.history
  pub replayed : s.machine ≡ replay after m s.history
  -- each seat's calls are those of its tickets, each once, without the one that it has begun and
  -- not made
  pub own_calls : (seat : ℕ) → calls_taken seat tickets ≡ calls_of (own seat s.history)
      ++ begun (slice_get s.phases seat)
