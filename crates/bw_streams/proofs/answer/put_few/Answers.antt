-- The goals of `put_few` that are answered by hand.
use Rattle.std.proofs.Common.{◌≡◌, ◌∙◌, ◌+◌, ◌/◌, ◌%◌, ◌++◌, [], ◌∷◌, ap, sym, arith}
use Rattle.std.proofs.Common.{append_assoc}
use Rattle.std.specs.Fmt.{decimal}
use Rattle.bw_streams.proofs.Digits.{last_two}
use Rattle.bw_streams.proofs.answer.put_few.Goals as goal

pub returns-in_default-clause-items : goal.returns-in_default-clause-items
returns-in_default-clause-items c =
    let n = c.args.number in
    let old = c.args.answer.now.items in
    c.put_two.ensures.items
    ∙ ap (λ x. x ++ (48 + n % 100 / 10) ∷ (48 + n % 100 % 10) ∷ [])
    c.put_short-in_default.ensures.items
    ∙ append_assoc old (decimal (n / 100)) ((48 + n % 100 / 10) ∷ (48 + n % 100 % 10) ∷ [])
    ∙ ap (λ ds. old ++ ds) (sym (last_two n (omega arith) (omega arith)))
