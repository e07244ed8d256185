-- The goals of `Marked::word_len` that are answered by hand.
use Rattle.std.proofs.Common.{arith, sym, subst}
use Rattle.std.specs.Str.{IsCharBoundary}
use Rattle.bw_commands.proofs.Marks.{word_len_of_none, word_len_of_some}
use Rattle.bw_commands.proofs.Words.{IsCharBoundary-word_len_of}
use Rattle.bw_commands.proofs.marked.Marked.word_len.Goals as goal

pub returns-then-self-eq0-clause-value : goal.returns-then-self-eq0-clause-value
returns-then-self-eq0-clause-value c =
    word_len_of_none c.args.self.text.now c.args.self.blanks c.args.self.marks c.if-self-eq0.true

pub returns-else-self-eq0-clause-value : goal.returns-else-self-eq0-clause-value
returns-else-self-eq0-clause-value c =
    word_len_of_some c.args.self.text.now c.args.self.blanks c.args.self.marks (omega arith)
    (omega arith)

pub returns-else-self-eq0-clause-boundary : goal.returns-else-self-eq0-clause-boundary
returns-else-self-eq0-clause-boundary c =
    let text = c.args.self.text.now in
    let is = word_len_of_some text c.args.self.blanks c.args.self.marks (omega arith)
    (omega arith) in
    subst (IsCharBoundary text) (sym is) (IsCharBoundary-word_len_of text)
