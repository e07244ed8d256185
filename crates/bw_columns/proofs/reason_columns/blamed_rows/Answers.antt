-- The goals of `blamed_rows` that are answered by hand.
use Rattle.std.proofs.Common.{rules, ◌≡◌, ◌<◌, length, get_or}
use Rattle.std.specs.Prelude.{slice_index_or}
use Rattle.std.proofs.lemmas.List.{get_or_default}
use Rattle.bw_questions.specs.declared.why.reason.Reason.{Reason}
use Rattle.bw_questions.specs.declared.why.reason.Reason.TheVariants.{NothingAsked}
use Rattle.bw_columns.specs.Reasoned.{blamed_row}
use Rattle.bw_columns.proofs.Turns.{map_more}
use Rattle.bw_columns.proofs.reason_columns.blamed_rows.Goals as goal

pub loop-g-preserved : goal.loop-g-preserved
loop-g-preserved c =
    let within : c.loop-g.g < length c.args.reasons.now = search rules in
    let same : (r : Reason) → get_or c.args.reasons.now c.loop-g.g r
    ≡ get_or c.args.reasons.now c.loop-g.g NothingAsked =
    λ r. get_or_default c.args.reasons.now c.loop-g.g r NothingAsked within in
    search (
      map_more (λ g. blamed_row g (slice_index_or c.args.reasons.now g NothingAsked)) c.loop-g.g,
      same,
      rules,
    )
