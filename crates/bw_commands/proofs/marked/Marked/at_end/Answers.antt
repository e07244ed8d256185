-- The goals of `Marked::at_end` that are answered by hand.
use Rattle.std.proofs.Common.{ℕ, List, ◌/◌, ◌^◌, ◌-◌, ◌∙◌, ap, sym, length}
use Rattle.std.specs.Simd.Lanes.{chunk}
use Rattle.bw_commands.specs.Word.{blanks_of}
use Rattle.bw_commands.proofs.Marks.{blanks_of-end}
use Rattle.bw_commands.proofs.marked.Marked.at_end.Goals as goal

pub invariant_of-result-clause-marks : goal.invariant_of-result-clause-marks
invariant_of-result-clause-marks c =
    let text = c.args.text.now in
    let few = length c.args.end.now in
    ap (λ n. n / 2 ^ (32 - few)) (c.blanks_at-last.ensures
    ∙ ap (λ (bytes : List ℕ). blanks_of (chunk (length bytes - 32) 32 bytes))
    c.as_bytes-bytes.ensures.value)
    ∙ blanks_of-end text 32 few c.requires.some c.requires.few ∙ ap blanks_of (sym c.requires.end)
