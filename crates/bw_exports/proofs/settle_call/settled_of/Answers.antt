-- The goal of `settled_of` that is answered by hand.
use Rattle.std.proofs.Common.{◌≡◌, length, ap, sym, ◌∙◌}
use Rattle.bw_model.specs.Groups.{Groups}
use Rattle.bw_columns.specs.Asked.{table_of}
use Rattle.bw_columns.proofs.CallerLemmas.{rows_length}
use Rattle.bw_exports.proofs.settle_call.settled_of.Goals as goal

pub settled_in-requires-clause-columns : goal.settled_in-requires-clause-columns
settled_in-requires-clause-columns c =
    let long : length c.args.columns.now.parents.now ≡ length c.in_ok-instance.instance.rows =
    sym (rows_length (table_of c.args.columns.now))
    ∙ ap (λ (g : Groups). length g.rows) (sym c.in_ok-instance.ensures.groups) in
    record {
      formulas = c.requires.formulas c.in_ok-instance.ensures.fit ∙ long;
      floors = c.requires.floors c.in_ok-instance.ensures.fit ∙ long;
      bases = c.requires.bases c.in_ok-instance.ensures.fit ∙ long;
    }
