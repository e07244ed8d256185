-- The goals of `blank_len` that are answered by hand.
use Rattle.std.proofs.Common.{◌≡◌, ◌∙◌, sym, subst, ap, length, not}
use Rattle.std.specs.Prelude.{position, unwrap_or}
use Rattle.std.specs.Str.{IsCharBoundary}
use Rattle.bw_commands.specs.Word.{is_blank, blank_len_of}
use Rattle.bw_commands.proofs.Words.{IsCharBoundary-blank_len_of}
use Rattle.bw_commands.proofs.word.blank_len.Goals as goal

pub returns-clause-boundary : goal.returns-clause-boundary
returns-clause-boundary c =
    let is : c.unwrap_or.result ≡ blank_len_of c.args.text.now =
    c.unwrap_or.ensures ∙ ap (λ o. unwrap_or o (length c.args.text.now))
    (c.first_other.ensures.value
    ∙ ap (position (λ b. not (is_blank b))) c.as_bytes.ensures.value) in
    subst (IsCharBoundary c.args.text.now) (sym is)
    (IsCharBoundary-blank_len_of c.args.text.now c.utf8.text)
