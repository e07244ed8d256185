-- The goals of `Marked::is_word` that are answered by hand.
use Rattle.std.proofs.Common.{rules, ◌<◌, length, arith, sym}
use Rattle.bw_commands.proofs.Marks.{word_len_of_none}
use Rattle.bw_commands.proofs.PlainLines.{some_less}
use Rattle.bw_commands.proofs.marked.Marked.is_word.Goals as goal

pub returns-then-self-eq0-clause-word : goal.returns-then-self-eq0-clause-word
returns-then-self-eq0-clause-word c t =
    let some : 0 < length c.args.self.text.now = search rules in (
      some,
      sym (word_len_of_none c.args.self.text.now c.args.self.blanks c.args.self.marks
          c.if-self-eq0.true),
    )

pub returns-else-self-eq0-clause-only : goal.returns-else-self-eq0-clause-only
returns-else-self-eq0-clause-only c word =
    let text = c.args.self.text.now in
    let less = some_less text c.args.self.blanks c.args.self.marks (omega arith) in
    absurd (let clash : ⊥ = omega (arith, word.1, less) in clash)
