-- The goal of `PathHash::after_words`, answered by the words of the text.
use Rattle.std.proofs.Common.{◌≡◌, ℕ, ◌*◌, ◌/◌, ◌≤◌, List, length, sym, ap, ◌∙◌, arith}
use Rattle.std.proofs.Math.Facts.{Fits-lt-pow}
use Rattle.std.specs.Simd.{first_chunks}
use Rattle.bw_tree.specs.Keys.{with_bytes, with_words}
use Rattle.bw_tree.proofs.HashLemmas.{by_words}
use Rattle.bw_tree.proofs.path_hash.PathHash.after_words.Goals as goal

pub returns : goal.returns
returns c =
    let text : List ℕ = c.args.bytes.now in
    let count : ℕ = length text / 4 in
    let long : count * 4 ≤ length text = omega arith in
    let value : c.with_words-value.result
    ≡ with_words c.args.seed c.args.value (first_chunks 4 count text) =
    c.with_words-value.ensures
    ∙ ap (with_words c.args.seed c.args.value) c.as_chunks.ensures.front in
    c.with_each.ensures
    ∙ ap (λ (v : ℕ). with_bytes c.args.seed (record { value = v; waiting = 1 })
    c.as_chunks.result.1.now) value
    ∙ ap (with_bytes c.args.seed
    (record { value = with_words c.args.seed c.args.value (first_chunks 4 count text); waiting = 1 }))
    c.as_chunks.ensures.back
    ∙ sym (by_words c.args.seed c.args.value count text long
    (λ i. Fits-lt-pow (c.type_inv.bytes i)))
