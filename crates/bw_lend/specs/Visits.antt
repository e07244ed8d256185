-- The visit of a seat to the lock, from where it has drawn a ticket until it owes no wake.
use Rattle.std.specs.Prelude.{◌≡◌, ◌≢◌, ℕ, zero, suc, ◌+◌, ◌-◌, ◌/◌, ◌==◌, ◌<◌, ◌⊎◌, List, []}
use Rattle.std.specs.Prelude.{◌∷◌, Option, None, Some, if◌then◌else◌}
use Rattle.std.specs.Int.{bit_at}
use Rattle.atomic_table.specs.Seated.{TableId}
use Rattle.bw_lend.specs.declared.task.Task.{Task}
use Rattle.bw_lend.specs.declared.task.Task.TheVariants.{ToLook, ToHint, ToWait, ToEnter}
use Rattle.bw_lend.specs.declared.task.Task.TheVariants.{ToPeek, ToClaim, ToHelp, ToGive}
use Rattle.bw_lend.specs.declared.task.Task.TheVariants.{ToGiveLast, ToReturn, ToWakeFirst}
use Rattle.bw_lend.specs.declared.task.Task.TheVariants.{ToWakeFrom}
use Rattle.bw_lend.specs.Crowd.{Drawn, Hinting, Reading, Entering, Peeking, Claiming}
use Rattle.bw_lend.specs.Crowd.{EnteringFor, Giving, GivingLast, Returning}
use Rattle.bw_lend.specs.Crowd.{Phase, Has, Leaves, Wakes}
use Rattle.bw_lend.specs.Rule.{hint_for}

-- The table of places, the ticket that the seat works on, the set of the places whose owners it
-- owes a wake, and what it does next.
pub record Visiting : Type 0 where
  pub table : TableId
  pub ticket : ℕ
  pub owed : ℕ
  pub task : Task

-- the visit with another task
abbrev pub to : Visiting → Task → Visiting
to v task = record v { task = task }

-- the visit that goes on with the next ticket
abbrev pub gone : Visiting → Task → Visiting
gone v task = record v { ticket = v.ticket + 1; task = task }

-- the visit with another set of owed wakes
abbrev pub gave : Visiting → ℕ → Visiting
gave v owed = record v { owed = owed }

-- the place that a hint names to a seat that looks for the ticket
abbrev pub Names : ℕ → ℕ → Option ℕ → Type 0
Names hint ticket None = hint / 64 ≢ ticket
Names hint ticket (Some place) = hint ≡ hint_for ticket place

-- the places of a set, of n places from place k on
unfoldable pub places_from : ℕ → ℕ → ℕ → List ℕ
places_from zero k set = []
places_from (suc n) k set = if bit_at set k == 1 then k ∷ places_from n (k + 1) set
    else places_from n (k + 1) set

-- The phase of a seat on its visit, by its ticket, the wakes that it owes and its task. It makes at
-- most n more loads of the lock's own. It wakes in the order of the places. One that waits begins
-- with a read.
abbrev pub phase_of : ℕ → ℕ → ℕ → Task → Phase
phase_of n t owed ToLook = Has t Drawn
phase_of n t owed ToHint = Has t Hinting
phase_of n t owed ToWait = Has t Reading
phase_of n t owed ToEnter = Has t Entering
phase_of n t owed ToPeek = Leaves t (places_from 64 0 owed) (Peeking n)
phase_of n t owed (ToClaim j) = Leaves t (places_from 64 0 owed) (Claiming j)
phase_of n t owed (ToHelp j) = Leaves t (places_from 64 0 owed) (EnteringFor j)
phase_of n t owed (ToGive j) = Leaves t (places_from 64 0 owed) (Giving j n)
phase_of n t owed (ToGiveLast j) = Leaves t (places_from 64 0 owed) (GivingLast j)
phase_of n t owed (ToReturn j) = Leaves t (places_from 64 0 owed) (Returning j)
phase_of n t owed (ToWakeFirst j) = Wakes (j ∷ places_from 64 0 owed)
phase_of n t owed (ToWakeFrom k) = Wakes (places_from (64 - k) k owed)

-- the seat may enter the lock, for itself or for the seat in a place
abbrev pub MayEnter : Task → Type 0
MayEnter task = (task ≡ ToEnter) ⊎ ((place : ℕ) × (task ≡ ToHelp place))

-- the place is one of the 64, if there is one
abbrev pub IsPlaceOf : Option ℕ → Type 0
IsPlaceOf None = Unit {0}
IsPlaceOf (Some place) = place < 64

-- the task of a seat with this ticket that has looked which one is served
abbrev pub after_sight : ℕ → ℕ → Task
after_sight ticket served = if ticket == served then ToEnter else ToLook

-- the task of a seat that has read a hint
abbrev pub after_peek : Option ℕ → Task
after_peek None = ToWakeFrom 0
after_peek (Some place) = ToClaim place
