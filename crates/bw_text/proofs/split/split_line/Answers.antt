-- The goals of `split_line` that are answered by hand.
use Rattle.std.proofs.Common.{◌+◌, eqb, get_or, arith}
use Rattle.std.proofs.lemmas.Bool.{false_from_ne_true}
use Rattle.std.proofs.lemmas.List.{take_rest}
use Rattle.bw_text.proofs.Parts.{part_ends, part_last}
use Rattle.bw_text.proofs.split.split_line.Goals as goal

pub returns-in_err-end : goal.returns-in_err-end
returns-in_err-end c =
    rw c.from_residual.ensures
    (part_last (λ b. eqb b 10) c.args.text.now
    (λ k lt. false_from_ne_true (eqb (get_or c.args.text.now k 0) 10)
    (c.in_err-end.ensures k (omega arith) lt)))

pub returns : goal.returns
returns c =
    rw (take_rest c.args.text.now (c.in_ok-end.end + 1))
    (part_ends (λ b. eqb b 10) c.args.text.now c.in_ok-end.end c.in_ok-end.ensures.0.high
    (λ k lt. false_from_ne_true (eqb (get_or c.args.text.now k 0) 10)
    (c.in_ok-end.ensures.0.before k (omega arith) lt))
    c.in_ok-end.ensures.1)
