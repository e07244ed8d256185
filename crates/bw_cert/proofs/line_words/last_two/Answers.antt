-- The goals of `last_two` that are answered by hand.
use Rattle.bw_cert.proofs.Lines.{three_parts}
use Rattle.bw_cert.proofs.line_words.last_two.Goals as goal

pub returns-in-Some : goal.returns-in-Some
returns-in-Some c = three_parts c.args.line.now c.in_ok-first.first.now c.in-Some.field-0.0.now
    c.in_ok-first.last.now c.in-Some.field-0.1.now
    c.in_ok-first.ensures c.in-Some.ensures
