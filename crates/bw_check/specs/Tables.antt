-- The tables that the check reads beside the rows.
use Rattle.std.specs.Prelude.{ℕ, List, length, slice_index}
use Rattle.bw_model.specs.Groups.{Groups}
use Rattle.bw_model.specs.Certificate.{Certified, AreBounds}
use Rattle.bw_model.specs.declared.row.Row.{Row}
use Rattle.bw_check.specs.declared.tables.Siblings.{Siblings}
use Rattle.bw_check.specs.declared.tables.Tables.{Tables}
use Rattle.bw_check.specs.Counts.{AreGathered, ArePlaces}
use Rattle.bw_check.specs.Verdict.{AreOnePerRow}

-- each row has its place among its siblings, and the number of its children
pub record AreSiblings (rows : List Row) (siblings : Siblings) : Type 0 where
  pub placed : ArePlaces rows (length rows) siblings.places.items
  pub counted : AreGathered rows (λ _. 1) (length rows) siblings.children.items

-- the tables are those of the amounts and the certificate, of which there is one of each per row
pub record AreTables (groups : Groups) (amounts : List ℕ) (certificate : Certified)
    (tables : Tables) : Type 0 where
  pub one_per_row : AreOnePerRow groups.rows amounts certificate
  pub siblings : AreSiblings groups.rows tables.siblings
  pub summed : AreGathered groups.rows (slice_index amounts) (length groups.rows) tables.sums.items
  pub bounded : AreBounds groups certificate tables.bounds.items
