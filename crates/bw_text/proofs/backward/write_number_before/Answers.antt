-- The goals of `write_number_before` that are answered by hand.
use Rattle.std.proofs.Common.{◌≤◌, length, arith, rules}
use Rattle.std.proofs.lemmas.Fmt.{length-decimal-le}
use Rattle.std.specs.Fmt.{decimal}
use Rattle.bw_text.proofs.backward.write_number_before.Goals as goal

pub write_digits-requires : goal.write_digits-requires
write_digits-requires c =
    let short : length (decimal c.args.n) ≤ 20 = search (rules, length-decimal-le 20) in
    (omega arith, c.requires.within)

pub returns-clause-at_most : goal.returns-clause-at_most
returns-clause-at_most c =
    let short : length (decimal c.args.n) ≤ 20 = search (rules, length-decimal-le 20) in
    omega arith
