-- The goals of `arbiter_refused_row` that are answered by hand.
use Rattle.std.proofs.Common.{rules, ◌≡◌, true, false, Some, None, length, sym, ap, ◌∙◌}
use Rattle.bw_model.specs.declared.instance_fault.InstanceFault.TheVariants.{BadParent}
use Rattle.bw_columns.specs.declared.columns.Columns.{Columns}
use Rattle.bw_columns.specs.Asked.{table_of, rows_in, are_even}
use Rattle.bw_exports.specs.RefusedRow.{rows_number}
use Rattle.bw_columns.proofs.CallerLemmas.{rows_length}
use Rattle.bw_columns.proofs.CallerLemmas.{refused_empty}
use Rattle.bw_exports.proofs.RefusedRow.{number_uneven, number_even}
use Rattle.bw_exports.proofs.refused_row_call.arbiter_refused_row.Goals as goal

pub returns-then-not-are_even-clause-number : goal.returns-then-not-are_even-clause-number
returns-then-not-are_even-clause-number c =
    let table = table_of c.new-columns.result in
    let uneven : are_even table ≡ false = search rules in
    c.number.ensures.value ∙ sym (number_uneven table uneven)
    ∙ ap (λ (columns : Columns). rows_number (table_of columns)) c.new-columns.ensures

pub returns-then-len-eq0-clause-number : goal.returns-then-len-eq0-clause-number
returns-then-len-eq0-clause-number c =
    let table = table_of c.new-columns.result in
    let even : are_even table ≡ true = search rules in
    let none : length (rows_in table) ≡ 0 =
    rows_length table ∙ sym c.len.ensures ∙ c.if-len-eq0.true in
    c.number-then-len-eq0.ensures.value
    ∙ sym (number_even table (Some BadParent) even (refused_empty (rows_in table) none))
    ∙ ap (λ (columns : Columns). rows_number (table_of columns)) c.new-columns.ensures

pub returns-in-Some-clause-number : goal.returns-in-Some-clause-number
returns-in-Some-clause-number c =
    let table = table_of c.new-columns.result in
    let even : are_even table ≡ true = search rules in
    c.number-in-Some.ensures.value
    ∙ sym (number_even table (Some c.in-Some.fault) even c.in-Some.ensures.fault)
    ∙ ap (λ (columns : Columns). rows_number (table_of columns)) c.new-columns.ensures

pub returns-in-None-clause-number : goal.returns-in-None-clause-number
returns-in-None-clause-number c =
    let table = table_of c.new-columns.result in
    let even : are_even table ≡ true = search rules in
    sym (number_even table None even c.in-None.ensures.none)
    ∙ ap (λ (columns : Columns). rows_number (table_of columns)) c.new-columns.ensures
