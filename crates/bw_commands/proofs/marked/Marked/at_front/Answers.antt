-- The goals of `Marked::at_front` that are answered by hand.
use Rattle.std.proofs.Common.{List, ℕ, ◌≡◌, ◌*◌, ◌%◌, ◌^◌, ◌-◌, ◌∙◌, ap, sym, arith}
use Rattle.std.specs.Prelude.{bit_and}
use Rattle.std.specs.Simd.Lanes.{chunk}
use Rattle.std.proofs.lemmas.Nat.{and_mask, shl_whole}
use Rattle.bw_commands.specs.Word.{blanks_of}
use Rattle.bw_commands.proofs.Marks.{blanks_of-front}
use Rattle.bw_commands.proofs.marked.Marked.at_front.Goals as goal

pub invariant_of-result-clause-marks : goal.invariant_of-result-clause-marks
invariant_of-result-clause-marks c =
    let text = c.args.text.now in
    let n = c.args.len in
    let near : c.blanks_at-near.result ≡ blanks_of (chunk 0 32 text) = c.blanks_at-near.ensures
    ∙ ap (λ (bytes : List ℕ). blanks_of (chunk 0 32 bytes)) c.as_bytes.ensures.value in
    let one : 1 * 2 ^ n % 2 ^ 64 ≡ 2 ^ n =
    shl_whole 1 1 n 64 (omega arith) (omega arith)
    ∙ (let same : 1 * 2 ^ n ≡ 2 ^ n = omega arith in same) in
    ap (λ m. bit_and m (1 * 2 ^ n % 2 ^ 64 - 1)) near
    ∙ ap (λ k. bit_and (blanks_of (chunk 0 32 text)) (k - 1)) one
    ∙ and_mask (blanks_of (chunk 0 32 text)) n
    ∙ blanks_of-front text 32 n c.requires.some c.requires.few
    ∙ ap blanks_of (sym c.split_at.ensures.front)
