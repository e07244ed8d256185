-- The goals of `split_in_two` that are answered by hand.
use Rattle.bw_cert.proofs.Lines.{not_two}
use Rattle.bw_cert.proofs.word_values.split_in_two.Goals as goal

pub returns-in-Some : goal.returns-in-Some
returns-in-Some c = not_two c.args.byte c.args.word.now c.in_ok-front.front.now
    c.in-Some.field-0.0.now c.in-Some.field-0.1.now c.in_ok-front.back.now
    c.in_ok-front.ensures c.in-Some.ensures
