-- What stands at each turn of the loop in `blamed_rows`.
use Rattle.std.proofs.Common.{◌≡◌, map}
use Rattle.std.specs.Prelude.{slice_index_or}
use Rattle.std.specs.List.{range_with_len}
use Rattle.bw_questions.specs.declared.why.reason.Reason.TheVariants.{NothingAsked}
use Rattle.bw_columns.specs.Reasoned.{blamed_row}
use Rattle.bw_columns.proofs.reason_columns.blamed_rows.Given as goal

abbrev pub invariant-loop-g : goal.invariant-loop-g
invariant-loop-g l =
    l.rows.items
    ≡ map (λ g. blamed_row g (slice_index_or l.reasons g NothingAsked)) (range_with_len 0 l.g)
