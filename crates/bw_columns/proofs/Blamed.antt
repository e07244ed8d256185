-- The rows that reasons blame are one for each group.
use Rattle.std.proofs.Common.{◌≡◌, List, length}
use Rattle.std.specs.Prelude.{slice_index_or}
use Rattle.std.proofs.lemmas.List.FromFn.{length-map-range_with_len}
use Rattle.bw_questions.specs.declared.why.reason.Reason.{Reason}
use Rattle.bw_questions.specs.declared.why.reason.Reason.TheVariants.{NothingAsked}
use Rattle.bw_columns.specs.Reasoned.{blamed_row, blamed_rows}

pub blamed_long : (reasons : List Reason) → length (blamed_rows reasons) ≡ length reasons
blamed_long reasons =
    length-map-range_with_len (λ g. blamed_row g (slice_index_or reasons g NothingAsked)) 0
    (length reasons)
