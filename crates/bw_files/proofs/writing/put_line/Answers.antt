-- The goals of `put_line` that are answered by hand.
use Rattle.std.proofs.Common.{[], ◌∷◌, subst, sym, arith}
use Rattle.std.specs.Str.{IsUtf8}
use Rattle.std.proofs.lemmas.Str.{IsUtf8-append}
use Rattle.bw_files.proofs.LineText.{on_ok, IsUtf8-number_line, IsUtf8-one}
use Rattle.bw_files.proofs.writing.put_line.Goals as goal

pub returns-clause-utf8 : goal.returns-clause-utf8
returns-clause-utf8 c =
    on_ok c.put_number_line.result (λ is text. subst IsUtf8 (sym is)
    (IsUtf8-number_line c.extend_from_slice.new.self.items (32 ∷ []) c.args.n
    (omega (arith, c.ranges.n.fits))
    (subst IsUtf8 (sym c.in_ok-extend_from_slice.ensures.items)
    (IsUtf8-append c.args.text.now.items c.as_bytes.result.now text
    (subst IsUtf8 (sym c.as_bytes.ensures.value) c.utf8.key)))
    (IsUtf8-one 32 (omega arith))))
    c.put_number_line.ensures.ok
