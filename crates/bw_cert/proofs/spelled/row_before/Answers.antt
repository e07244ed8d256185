-- The goals of `row_before` that are answered by hand.
use Rattle.std.proofs.Common.{◌∙◌}
use Rattle.std.specs.Fmt.{decimal}
use Rattle.bw_cert.specs.Spelling.{parent_word, limit_word}
use Rattle.bw_cert.proofs.OnePass.{row_text}
use Rattle.bw_cert.proofs.spelled.row_before.Goals as goal

pub returns-clause-spelled : goal.returns-clause-spelled
returns-clause-spelled c =
    c.in_ok-parent.ensures.spelled ∙ rw (
      c.in_ok-weight.ensures.spelled,
      c.in_ok-limit.ensures.spelled,
      c.in_ok-demand.ensures.spelled,
    )
    (row_text (parent_word c.in_ok-parent.parent) (decimal c.in_ok-weight.weight)
    (limit_word c.in_ok-limit.limit) (decimal c.in_ok-demand.demand) c.in_ok-demand.text.now)
