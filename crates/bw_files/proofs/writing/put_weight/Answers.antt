-- The goals of `put_weight` that are answered by hand.
use Rattle.std.proofs.Common.{[], subst, sym, arith}
use Rattle.std.specs.Str.{IsUtf8}
use Rattle.bw_files.proofs.LineText.{on_ok, IsUtf8-number_line, IsUtf8-empty}
use Rattle.bw_files.proofs.writing.put_weight.Goals as goal

pub returns-clause-utf8 : goal.returns-clause-utf8
returns-clause-utf8 c =
    on_ok c.put_number_line.result (λ is text. subst IsUtf8 (sym is)
    (IsUtf8-number_line c.args.text.now.items [] c.args.weight
    (omega (arith, c.ranges.weight.fits)) text IsUtf8-empty))
    c.put_number_line.ensures.ok
