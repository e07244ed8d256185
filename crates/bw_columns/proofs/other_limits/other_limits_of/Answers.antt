-- The goals of `other_limits_of` that are answered by hand.
use Rattle.std.proofs.Common.{ℕ, Bool, length, ap, sym, ◌∙◌}
use Rattle.std.proofs.lemmas.List.{length-map}
use Rattle.std.proofs.lemmas.List.FromFn.{length-map-range_with_len}
use Rattle.bw_columns.specs.OtherLimits.{cut_number, number_of_row}
use Rattle.bw_columns.proofs.other_limits.other_limits_of.Goals as goal

pub limit_others-requires-clause-may : goal.limit_others-requires-clause-may
limit_others-requires-clause-may c =
    ap (length {A = Bool}) (c.as_slice.ensures.value ∙ c.in_ok-flags.ensures)
    ∙ length-map c.args.may.now _
    ∙ c.requires.may c.in_ok-instance.ensures.reply.0 ∙ sym c.in_ok-instance.ensures.rows

pub returns-in-Met-clause-limits : goal.returns-in-Met-clause-limits
returns-in-Met-clause-limits c =
    let groups = c.in_ok-instance.instance in
    ap (length {A = ℕ}) c.in_ok-cut_numbers-in-Met.ensures
    ∙ length-map-range_with_len (cut_number groups c.as_slice-in-Met.result.now) 0
    (length groups.rows)
    ∙ c.in_ok-instance.ensures.rows

pub returns-clause-limits : goal.returns-clause-limits
returns-clause-limits c =
    ap (length {A = ℕ}) c.in_ok-own_numbers-in-Unmet.ensures
    ∙ length-map c.in_ok-instance.instance.rows number_of_row
    ∙ c.in_ok-instance.ensures.rows
