-- The visits of rows: the turns of the loops over them.
use Rattle.std.specs.Prelude.{ℕ, ◌+◌, ◌*◌, ◌≤◌, List, length}
use Rattle.bw_model.specs.declared.row.Row.{Row}

-- a count before and after at most so many visits of each row
pub record AreVisits (rows : List Row) (passes before after : ℕ) : Type 0 where
  pub no_fewer : before ≤ after
  pub most : after ≤ before + passes * length rows
