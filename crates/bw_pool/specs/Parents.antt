-- The parents of the rows, by which the calls of a pool go up.
use Rattle.std.specs.Prelude.{ℕ, List, map, Option}
use Rattle.bw_model.specs.declared.row.Row.{Row}
use Rattle.bw_model.specs.Groups.{no_row}

-- the parent of each row
abbrev pub parents_of : List Row → List (Option ℕ)
parents_of rows = map (λ r. r.parent) rows

-- rows that have these parents and nothing else
abbrev pub bare_rows : List (Option ℕ) → List Row
bare_rows parents = map (λ parent. record no_row { parent = parent }) parents
