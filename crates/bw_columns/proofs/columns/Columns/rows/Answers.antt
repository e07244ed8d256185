-- The goals of `Columns::rows` that are answered by hand.
use Rattle.std.proofs.Common.{rules}
use Rattle.bw_columns.specs.Asked.{row_in, table_of}
use Rattle.bw_columns.proofs.Turns.{map_more}
use Rattle.bw_columns.proofs.columns.Columns.rows.Goals as goal

pub loop-g-preserved : goal.loop-g-preserved
loop-g-preserved c =
    search (map_more (row_in (table_of c.args.self.now)) c.loop-g.g, rules)
