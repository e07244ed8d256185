-- The goals of `spelled_group` that are answered by hand.
use Rattle.std.proofs.Common.{◌∙◌}
use Rattle.std.specs.Fmt.{decimal}
use Rattle.std.specs.Option.{option_map}
use Rattle.bw_model.specs.Marks.{price_of}
use Rattle.bw_cert.specs.Spelling.{parent_word, limit_word, flag_word, level_word}
use Rattle.bw_cert.proofs.OnePass.{line_text}
use Rattle.bw_cert.proofs.spelled.spelled_group.Goals as goal

pub returns-clause-spelled : goal.returns-clause-spelled
returns-clause-spelled c =
    c.in_ok-row.ensures.spelled ∙ rw (
      c.in_ok-amount.ensures.spelled,
      c.in_ok-flag.ensures.spelled,
      c.in_ok-level.ensures.spelled,
    )
    (line_text (parent_word c.in_ok-row.row.parent) (decimal c.in_ok-row.row.weight)
    (limit_word c.in_ok-row.row.limit) (decimal c.in_ok-row.row.demand)
    (decimal c.in_ok-amount.amount) (flag_word c.in_ok-flag.flag)
    (level_word (option_map price_of c.in_ok-level.level)) c.in_ok-level.text.now)
