-- The goals of `relimited` that are answered by hand.
use Rattle.std.proofs.Common.{◌∙◌}
use Rattle.bw_questions.proofs.Limits.{limit-IsInstance}
use Rattle.bw_questions.proofs.least.changed.relimited.Goals as goal

pub of_valid-requires : goal.of_valid-requires
of_valid-requires c =
    rw (c.shape.ensures, c.in_ok-rows.ensures ∙ c.rows.ensures.rows, c.row-row.ensures)
    (limit-IsInstance c.args.instance.now c.rows.ensures.valid c.args.group c.args.limit
    c.requires.row c.requires.below_root)
