-- The goals of `Command::of_any` that are answered by hand.
use Rattle.std.proofs.Common.{◌≡◌, ◌∙◌, ap, sym, subst, length}
use Rattle.bw_commands.specs.Word.{after_word, end_of}
use Rattle.bw_commands.proofs.Words.{after_words_is_end}
use Rattle.bw_commands.proofs.command.Command.of_any.Goals as goal

pub last_words-requires : goal.last_words-requires
last_words-requires c =
    let line = c.args.line.now in
    let is = c.split_word-2.ensures.rest ∙ ap after_word c.split_word.ensures.rest in
    subst (λ ys. ys ≡ end_of (length ys) line) (sym is) (after_words_is_end line)
