-- The goals of `reweighted` that are answered by hand.
use Rattle.std.proofs.Common.{◌∙◌}
use Rattle.bw_questions.proofs.Rising.{weight-IsInstance}
use Rattle.bw_questions.proofs.least.changed.reweighted.Goals as goal

pub of_valid-requires : goal.of_valid-requires
of_valid-requires c =
    rw (c.shape.ensures, c.in_ok-rows.ensures ∙ c.rows.ensures.rows, c.row-row.ensures)
    (weight-IsInstance c.args.instance.now c.rows.ensures.valid c.args.group c.args.weight
    c.requires.row c.requires.weight.0 c.requires.weight.1)
