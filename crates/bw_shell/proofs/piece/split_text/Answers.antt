-- The goal of `split_text` that is answered by hand.
use Rattle.std.proofs.Common.{rules, ◌<◌, ◌∙◌, ap, length, slice_index, subst, sym}
use Rattle.std.proofs.lemmas.Str.{IsCharBoundary-after_ascii}
use Rattle.bw_shell.proofs.LineLemmas.{first_of_drop}
use Rattle.bw_shell.proofs.piece.split_text.Goals as goal

pub range_from-requires : goal.range_from-requires
range_from-requires c =
    let text = c.args.text.now in
    let behind = c.range_from-behind.result.now in
    let some : 0 < length behind = search rules in
    let low : slice_index text c.args.end < 128 = search rules in
    let is_low : slice_index behind 0 < 128 =
    subst (λ b. b < 128)
    (sym (ap (λ bs. slice_index bs 0) c.range_from-behind.ensures.value
    ∙ first_of_drop c.args.end text)) low in
    λ more. IsCharBoundary-after_ascii behind 0 c.range_from-behind.utf8 some is_low
