-- The goals of `len_by_one` that are answered by hand.
use Rattle.std.proofs.Common.{◌∙◌, length, sym, arith}
use Rattle.std.proofs.lemmas.List.Sums.{position_or_len_is}
use Rattle.bw_text.specs.Words.{is_either}
use Rattle.bw_text.proofs.scan.len_by_one.Goals as goal

pub returns-then-is_either : goal.returns-then-is_either
returns-then-is_either c = sym (position_or_len_is (is_either c.args.one c.args.other)
    c.args.text.now c.loop-at.at 0 (omega arith) c.loop-at.invariant
    (λ _. sym c.is_either.ensures ∙ c.if-is_either.true))

pub returns : goal.returns
returns c = sym (position_or_len_is (is_either c.args.one c.args.other) c.args.text.now
    (length c.args.text.now) 0 (omega arith) (λ k lt. c.loop-at.invariant k (omega arith))
    (λ lt. absurd (omega arith)))
