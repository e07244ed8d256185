-- The goals of `mark_before` that are answered by hand.
use Rattle.std.proofs.Common.{◌∙◌}
use Rattle.std.specs.Fmt.{decimal}
use Rattle.bw_cert.proofs.OnePass.{level_text}
use Rattle.bw_cert.proofs.spelled.mark_before.Goals as goal

pub returns-clause-spelled : goal.returns-clause-spelled
returns-clause-spelled c =
    c.in_ok-num.ensures.spelled ∙ rw (
      c.in_ok-den.ensures.spelled,
      c.in_ok-place.ensures.spelled,
      c.in_ok-mark.ensures.value.0,
      c.in_ok-mark.ensures.value.1,
      c.in_ok-mark.ensures.value.2,
    )
    (level_text (decimal c.in_ok-num.num) (decimal c.in_ok-den.den) (decimal c.in_ok-place.place)
    c.in_ok-place.text.now)
