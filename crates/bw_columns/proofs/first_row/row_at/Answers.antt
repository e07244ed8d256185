-- The goal of `row_at` that is answered by hand.
use Rattle.std.proofs.Common.{◌∙◌}
use Rattle.bw_columns.specs.Asked.{table_of}
use Rattle.bw_columns.proofs.RefusedRow.{row_of-rows_in}
use Rattle.bw_columns.proofs.first_row.row_at.Goals as goal

pub returns : goal.returns
returns c = c.row.ensures ∙ row_of-rows_in (table_of c.args.columns.now) c.args.g c.requires.within
