-- The goals of `is_word` that are answered by hand.
use Rattle.std.proofs.Common.{◌≡◌, ◌∙◌, arith, sym}
use Rattle.std.proofs.lemmas.Grind.{same_number_lists}
use Rattle.std.proofs.lemmas.Slice.Eq.{bytes_eq-Decides}
use Rattle.bw_text.proofs.fixed.is_word.Goals as goal

pub returns : goal.returns
returns c =
    let bytes = c.as_bytes-bytes.result.now in
    let wanted = c.as_bytes-wanted.result.now in
    let same : bytes ≡ wanted = same_number_lists bytes wanted c.if-bytes-wanted.false
    (λ k lt. c.loop-at.invariant k (omega arith)) in
    sym ((bytes_eq-Decides c.args.text.now c.args.word.now).1
    (sym c.as_bytes-bytes.ensures.value ∙ same ∙ c.as_bytes-wanted.ensures.value))
