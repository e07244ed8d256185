-- The goal of `demand_above` that is answered by hand.
use Rattle.std.proofs.Common.{◌≡◌, ℕ, ◌≤◌, Option, sym, ap, ◌∙◌, arith, length}
use Rattle.bw_model.specs.Refusal.{demand_above}
use Rattle.bw_columns.specs.Asked.{table_of, rows_in}
use Rattle.bw_columns.proofs.Asked.{rows_length}
use Rattle.bw_columns.proofs.RefusedRow.{none_above}
use Rattle.bw_columns.proofs.first_row.demand_above.Goals as goal

pub returns-in_default : goal.returns-in_default
returns-in_default c =
    let rows = rows_in (table_of c.args.columns.now) in
    let long : length rows ≡ length c.args.columns.now.parents.now =
    rows_length (table_of c.args.columns.now) in
    let past : length rows ≤ c.in-Some.parent =
    omega (arith, long, c.len.ensures, c.if-parent-len.false) in
    sym (ap (λ (o : Option ℕ). demand_above rows o) c.in-Some.is
    ∙ none_above rows c.in-Some.parent past)
