-- The goals of `blank_len` that are answered by hand.
use Rattle.std.proofs.Common.{◌≡◌, ◌∙◌, arith, subst, sym}
use Rattle.std.specs.Str.{IsCharBoundary}
use Rattle.bw_commands.specs.Word.{blank_len_of}
use Rattle.bw_commands.proofs.Marks.{blank_len_of_marks}
use Rattle.bw_commands.proofs.Words.{IsCharBoundary-blank_len_of}
use Rattle.bw_commands.proofs.marked.blank_len.Goals as goal

pub returns-clause-value : goal.returns-clause-value
returns-clause-value c = c.trailing_ones.ensures
    ∙ blank_len_of_marks c.args.text.now c.args.blanks c.requires.marks (omega arith)

pub returns-clause-boundary : goal.returns-clause-boundary
returns-clause-boundary c =
    let text = c.args.text.now in
    let is : c.trailing_ones.result ≡ blank_len_of text = c.trailing_ones.ensures
    ∙ blank_len_of_marks text c.args.blanks c.requires.marks (omega arith) in
    subst (IsCharBoundary text) (sym is) (IsCharBoundary-blank_len_of text c.utf8.text)
