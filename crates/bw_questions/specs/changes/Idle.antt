-- Law of a group that asks for nothing.
use Rattle.std.specs.Prelude.{◌≡◌, ℕ, ◌≤◌, List, length, insert}
use Rattle.bw_model.specs.declared.row.Row.{Row}
use Rattle.bw_model.specs.Groups.{IsInstance}
use Rattle.bw_model.specs.Host.{Shape}
use Rattle.bw_model.specs.Plan.{IsPlan}
use Rattle.bw_questions.specs.changes.Places.{all_renumbered}

-- the rows with a new group at a place
unfoldable pub with_group : List Row → ℕ → Row → List Row
with_group rows place group = insert (all_renumbered place rows) place group

-- A new group with no demand has nothing, and the amounts of the others stay.
abbrev pub IdleGroupChangesNothing : Type 0
IdleGroupChangesNothing = (shape : Shape) (rows : List Row) (place : ℕ) (idle : Row)
    (amounts others : List ℕ) → IsInstance (record { shape = shape; rows = rows })
    → IsInstance (record { shape = shape; rows = with_group rows place idle })
    → place ≤ length rows → idle.demand ≡ 0
    → IsPlan (record { shape = shape; rows = rows }) amounts
    → IsPlan (record { shape = shape; rows = with_group rows place idle }) others
    → others ≡ insert amounts place 0
