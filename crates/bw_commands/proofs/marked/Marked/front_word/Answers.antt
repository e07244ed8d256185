-- The goals of `Marked::front_word` that are answered by hand.
use Rattle.std.proofs.Common.{ℕ, List, ◌+◌, ◌≡◌, ◌∙◌, take, drop, arith, ap, sym, subst}
use Rattle.std.specs.Str.{IsCharBoundary, IsUtf8}
use Rattle.bw_commands.specs.Plain.{BeginsWith}
use Rattle.bw_commands.proofs.Marks.{word_len_of_none}
use Rattle.bw_commands.proofs.PlainLines.{len_from_begins, some_less, cut_behind_blank}
use Rattle.bw_commands.proofs.PlainLines.{begins_from_len}
use Rattle.bw_commands.proofs.marked.Marked.front_word.Goals as goal

pub returns-then-self-eq0-clause-only : goal.returns-then-self-eq0-clause-only
returns-then-self-eq0-clause-only c word rest begins =
    let text = c.args.self.text.now in
    let whole = word_len_of_none text c.args.self.blanks c.args.self.marks c.if-self-eq0.true in
    let part = len_from_begins text word rest begins in
    absurd (let clash : ⊥ = omega (arith, whole, part.0, part.1) in clash)

pub split_at-requires-2 : goal.split_at-requires-2
split_at-requires-2 c =
    let text = c.args.self.text.now in
    let less = some_less text c.args.self.blanks c.args.self.marks (omega arith) in
    let utf8 : IsUtf8 text = subst IsUtf8 c.text.ensures c.text.utf8 in
    subst (λ n. IsCharBoundary text (n + 1)) (sym c.word_len-len.ensures.value)
    (cut_behind_blank text utf8 less)

pub returns-clause-found : goal.returns-clause-found
returns-clause-found c =
    let text = c.args.self.text.now in
    let len : ℕ = c.word_len-len.result in
    let is = c.word_len-len.ensures.value in
    let less = some_less text c.args.self.blanks c.args.self.marks (omega arith) in
    let begins : BeginsWith text (take len text) (drop (len + 1) text) =
    subst (λ n. BeginsWith text (take n text) (drop (n + 1) text)) (sym is)
    (begins_from_len text (omega (arith, is)) less) in
    let word : c.split_at.result.0.now ≡ take len text =
    c.split_at.ensures.front ∙ ap (take len) c.text.ensures in
    subst (λ (w : List ℕ). BeginsWith text w c.split_at-2.result.1.text.now) (sym word)
    (subst (BeginsWith text (take len text)) (sym c.split_at-2.ensures.behind) begins)
