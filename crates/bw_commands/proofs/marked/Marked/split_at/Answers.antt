-- The goals of `Marked::split_at` that are answered by hand.
use Rattle.std.proofs.Common.{◌/◌, ◌^◌, ◌∙◌, ap, sym}
use Rattle.bw_commands.specs.Word.{blanks_of}
use Rattle.bw_commands.proofs.Marks.{blanks_of-drop}
use Rattle.bw_commands.proofs.marked.Marked.split_at.Goals as goal

pub invariant_of-result-clause-marks : goal.invariant_of-result-clause-marks
invariant_of-result-clause-marks c =
    ap (λ n. n / 2 ^ c.args.place) c.args.self.marks
    ∙ blanks_of-drop c.args.place c.args.self.text.now ∙ ap blanks_of (sym c.split_at.ensures.back)
