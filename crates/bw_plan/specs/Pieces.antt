-- The groups of a depth, cut into pieces of work.
use Rattle.std.specs.Prelude.{ℕ, ◌+◌, ◌*◌, ◌<◌, ◌≤◌, ◌⊎◌, List, cond, length, nat_lt}
use Rattle.std.specs.List.{sum_by}
use Rattle.bw_model.specs.declared.row.Row.{Row}
use Rattle.bw_model.specs.Groups.{children_of}

-- the number of children that share what a group has: an only child gets all of it
abbrev pub sharers : List Row → ℕ → ℕ
sharers rows g = cond (nat_lt 1 (length (children_of rows g))) (length (children_of rows g)) 0

-- the number of children that share what one of these groups has
abbrev pub sharers_of_all : List Row → List ℕ → ℕ
sharers_of_all rows groups = sum_by (sharers rows) groups

-- one thread is as fast as several: one group, or sharers for less than two pieces of this size
abbrev pub HasOnePiece : ℕ → ℕ → ℕ → Type 0
HasOnePiece size groups sharing = (groups < 2) ⊎ (sharing < 2 * size)

-- the most groups that have, on average, no more sharers than a piece of this size
pub record IsPiece (size groups sharing piece : ℕ) : Type 0 where
  pub within : piece * sharing ≤ groups * size
  pub most : groups * size < (piece + 1) * sharing
