-- The goals of `reasons_of` that are answered by hand.
use Rattle.std.proofs.Common.{◌≡◌, ℕ, List, length, map, ap, ◌∙◌}
use Rattle.bw_questions.specs.declared.why.reason.Reason.{Reason}
use Rattle.bw_columns.specs.Requests.{row_count}
use Rattle.bw_columns.specs.Reasoned.{reason_number, blamed_rows}
use Rattle.bw_columns.proofs.Blamed.{blamed_long}
use Rattle.bw_columns.proofs.Spelling.{long_by}
use Rattle.bw_columns.proofs.reasoned.reasons_of.Goals as goal

pub returns-clause-numbers : goal.returns-clause-numbers
returns-clause-numbers c =
    let each : length c.in_ok-found.found.items ≡ row_count c.args.request.now =
    c.in_ok-found.ensures.one_each
    ∙ c.in_ok-instance.ensures.rows in
    long_by reason_number c.in_ok-found.found.items c.in_ok-reason_numbers.field-0.items
    (row_count c.args.request.now)
    (c.in_ok-reason_numbers.ensures
    ∙ ap (λ (l : List Reason). map reason_number l) c.as_slice-each.ensures.value) each

pub returns-clause-blamed : goal.returns-clause-blamed
returns-clause-blamed c =
    ap (length {A = ℕ}) (c.in_ok-blamed_rows.ensures
    ∙ ap (λ (l : List Reason). blamed_rows l) c.as_slice-each.ensures.value)
    ∙ blamed_long c.in_ok-found.found.items ∙ c.in_ok-found.ensures.one_each
    ∙ c.in_ok-instance.ensures.rows
