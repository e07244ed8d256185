-- The goals of `word_len` that are answered by hand.
use Rattle.std.proofs.Common.{◌≡◌, ◌∙◌, sym, subst, ap}
use Rattle.std.specs.List.{position_or_len}
use Rattle.std.specs.Str.{IsCharBoundary}
use Rattle.bw_commands.specs.Word.{is_blank, word_len_of}
use Rattle.bw_commands.proofs.Words.{IsCharBoundary-word_len_of, position_or_len_is_word}
use Rattle.bw_commands.proofs.word.word_len.Goals as goal

pub returns-clause-value : goal.returns-clause-value
returns-clause-value c =
    c.len_before.ensures ∙ ap (position_or_len is_blank) c.as_bytes.ensures.value
    ∙ position_or_len_is_word is_blank c.args.text.now

pub returns-clause-boundary : goal.returns-clause-boundary
returns-clause-boundary c =
    let is : c.len_before.result ≡ word_len_of c.args.text.now =
    c.len_before.ensures ∙ ap (position_or_len is_blank) c.as_bytes.ensures.value
    ∙ position_or_len_is_word is_blank c.args.text.now in
    subst (IsCharBoundary c.args.text.now) (sym is) (IsCharBoundary-word_len_of c.args.text.now)
