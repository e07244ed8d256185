-- The goals of `put_digits` that are answered by hand.
use Rattle.std.proofs.Common.{◌≡◌, ◌∙◌, ◌+◌, ◌/◌, ◌%◌, ◌++◌, [], ◌∷◌, ap, sym, arith}
use Rattle.std.proofs.Common.{append_assoc}
use Rattle.std.specs.Fmt.{decimal}
use Rattle.bw_streams.proofs.Digits.{last_four}
use Rattle.bw_streams.proofs.answer.put_digits.Goals as goal

pub returns-in-10000-to-99999999-clause-items : goal.returns-in-10000-to-99999999-clause-items
returns-in-10000-to-99999999-clause-items c =
    let n = c.args.number in
    let old = c.args.answer.now.items in
    let middle = (48 + n / 100 % 100 / 10) ∷ (48 + n / 100 % 100 % 10) ∷ [] in
    let last = (48 + n % 100 / 10) ∷ (48 + n % 100 % 10) ∷ [] in
    c.put_two-in-10000-to-99999999.ensures.items
    ∙ ap (λ x. x ++ last) (c.put_two.ensures.items ∙ ap (λ x. x ++ middle)
    c.put_few-in-10000-to-99999999.ensures.items
    ∙ append_assoc old (decimal (n / 10000)) middle)
    ∙ append_assoc old (decimal (n / 10000) ++ middle) last
    ∙ ap (λ ds. old ++ ds) (sym (last_four n (omega arith) (omega arith)))
