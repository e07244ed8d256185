-- The goals of `put_stat` that are answered by hand.
use Rattle.bw_files.proofs.LineText.{six_lines}
use Rattle.bw_files.proofs.writing.put_stat.Goals as goal

pub returns-clause-ok : goal.returns-clause-ok
returns-clause-ok c =
    rw (
      c.in_ok-put_line-6.ensures.ok,
      c.in_ok-put_line-5.ensures.ok,
      c.in_ok-put_line-4.ensures.ok,
      c.in_ok-put_line-3.ensures.ok,
      c.in_ok-put_line-2.ensures.ok,
      c.in_ok-put_line.ensures.ok,
      c.if-root.false,
    ) (six_lines c.args.text.now.items _ _ _ _ _ _)
