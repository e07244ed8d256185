-- The goals of `put_max` that are answered by hand.
use Rattle.std.proofs.Common.{[], ◌∷◌, subst, sym, arith}
use Rattle.std.specs.Str.{IsUtf8}
use Rattle.bw_files.proofs.LineText.{on_ok, IsUtf8-number_line, IsUtf8-one}
use Rattle.bw_files.proofs.writing.put_max.Goals as goal

pub returns-clause-utf8 : goal.returns-clause-utf8
returns-clause-utf8 c =
    on_ok c.put_number_line.result (λ is text. subst IsUtf8 (sym is)
    (IsUtf8-number_line c.put_quota.new.text.items (32 ∷ []) c.args.period
    (omega (arith, c.ranges.period.fits))
    (c.in_ok-put_quota.ensures.utf8 text) (IsUtf8-one 32 (omega arith))))
    c.put_number_line.ensures.ok
