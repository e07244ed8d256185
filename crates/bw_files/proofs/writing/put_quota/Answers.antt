-- The goals of `put_quota` that are answered by hand.
use Rattle.std.proofs.Common.{[], ◌∷◌, ap, subst, sym}
use Rattle.std.specs.Str.{IsUtf8}
use Rattle.std.specs.Fmt.{decimal}
use Rattle.std.proofs.lemmas.Str.{IsUtf8-append}
use Rattle.bw_files.specs.Writing.{quota_word}
use Rattle.bw_files.proofs.LineText.{on_ok, on_items, IsUtf8-max, IsUtf8-quota_word}
use Rattle.bw_files.proofs.writing.put_quota.Goals as goal

pub returns-in-Max-clause-utf8 : goal.returns-in-Max-clause-utf8
returns-in-Max-clause-utf8 c =
    on_ok c.extend_from_slice.result (λ is text. subst IsUtf8 (sym is)
    (IsUtf8-append c.args.text.now.items (109 ∷ 97 ∷ 120 ∷ []) text IsUtf8-max))
    (on_items c.extend_from_slice.result _ _ _ c.extend_from_slice.ensures.items)

pub returns-in-Micros-clause-utf8 : goal.returns-in-Micros-clause-utf8
returns-in-Micros-clause-utf8 c =
    on_ok c.put_number.result (λ is text. subst IsUtf8 (sym is)
    (IsUtf8-append c.args.text.now.items (decimal c.in-Micros.n) text
    (subst IsUtf8 (ap quota_word c.in-Micros.is) (IsUtf8-quota_word c.args.quota c.requires))))
    c.put_number.ensures.ok
