-- The goal of `write_group` that is answered by hand.
use Rattle.std.specs.Fmt.{decimal}
use Rattle.std.specs.Option.{option_map}
use Rattle.bw_model.specs.Marks.{price_of}
use Rattle.bw_cert.specs.Spelling.{parent_word, limit_word, flag_word, level_word}
use Rattle.bw_cert.proofs.Written.{group_text}
use Rattle.bw_cert.proofs.writing.write_group.Goals as goal

pub returns-clause-written : goal.returns-clause-written
returns-clause-written c =
    rw (
      c.write_row.ensures.written,
      c.write_number-end.ensures.written,
      c.write_flag-end.ensures.written,
      c.write_level-end.ensures.written,
    )
    (group_text (parent_word c.args.row.parent) (decimal c.args.row.weight)
    (limit_word c.args.row.limit) (decimal c.args.row.demand) (decimal c.args.amount)
    (flag_word c.args.flag) (level_word (option_map price_of c.args.level)))
