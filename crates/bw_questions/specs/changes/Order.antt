-- Law of the rows of one tree in another order.
use Rattle.std.specs.Prelude.{◌≡◌, ℕ, ◌<◌, List, length, slice_index}
use Rattle.bw_model.specs.declared.row.Row.{Row}
use Rattle.bw_model.specs.Groups.{IsInstance, row_of, parent_of}
use Rattle.bw_model.specs.Host.{Shape}
use Rattle.bw_model.specs.Plan.{IsPlan}
use Rattle.bw_questions.specs.changes.Places.{renumbered}

-- A tree's rows in another order, with siblings in the same one. The number of a group is its new
-- row, and the old number of a new row is the group's row here.
pub record IsReordered (rows others : List Row) (number old : ℕ → ℕ) : Type 0 where
  pub as_many : length others ≡ length rows
  pub numbers : (g : ℕ) → g < length rows → (number g < length rows) × (old (number g) ≡ g)
  pub olds : (n : ℕ) → n < length rows → (old n < length rows) × (number (old n) ≡ n)
  pub same_rows : (g : ℕ) → g < length rows
      → row_of others (number g) ≡ renumbered number (row_of rows g)
  pub siblings : (g h : ℕ) → g < h → h < length rows → parent_of rows g ≡ parent_of rows h
      → number g < number h

-- In another order of the rows, with siblings in the same order, each group has what it had.
abbrev pub RowOrderChangesNothing : Type 0
RowOrderChangesNothing = (shape : Shape) (rows reordered : List Row) (number old : ℕ → ℕ)
    (amounts others : List ℕ) → IsInstance (record { shape = shape; rows = rows })
    → IsInstance (record { shape = shape; rows = reordered })
    → IsReordered rows reordered number old
    → IsPlan (record { shape = shape; rows = rows }) amounts
    → IsPlan (record { shape = shape; rows = reordered }) others
    → (g : ℕ) → g < length rows → slice_index others (number g) ≡ slice_index amounts g
