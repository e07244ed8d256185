-- The goal of `write_row` that is answered by hand.
use Rattle.std.specs.Prelude.{drop}
use Rattle.std.specs.Fmt.{decimal}
use Rattle.bw_cert.specs.Spelling.{parent_word, limit_word}
use Rattle.bw_cert.proofs.OnePass.{row_text}
use Rattle.bw_cert.proofs.writing.write_row.Goals as goal

pub returns-clause-written : goal.returns-clause-written
returns-clause-written c =
    rw (
      c.write_parent.ensures.written,
      c.write_number-end-2.ensures.written,
      c.write_limit-end.ensures.written,
      c.write_number-end.ensures.written,
    )
    (row_text (parent_word c.args.row.parent) (decimal c.args.row.weight)
    (limit_word c.args.row.limit) (decimal c.args.row.demand)
    (drop c.args.end c.args.buffer.now))
