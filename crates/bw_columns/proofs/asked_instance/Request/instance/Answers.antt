-- The goals of `instance` that are answered by hand.
use Rattle.std.proofs.Common.{length, ap, ◌∙◌}
use Rattle.bw_model.specs.Groups.{Groups}
use Rattle.bw_columns.specs.Asked.{table_of}
use Rattle.bw_columns.proofs.Asked.{rows_length}
use Rattle.bw_columns.proofs.asked_instance.Request.instance.Goals as goal

pub returns-clause-rows : goal.returns-clause-rows
returns-clause-rows c =
    ap (λ (g : Groups). length g.rows) c.in_ok-instance.ensures.groups
    ∙ rows_length (table_of c.args.self.now.columns)
