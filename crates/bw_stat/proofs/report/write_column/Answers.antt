-- The goals of `write_column` that are answered by hand.
use Rattle.std.proofs.Common.{◌≤◌, ◌∙◌, length, arith, rules}
use Rattle.std.specs.Fmt.{decimal}
use Rattle.std.proofs.lemmas.Fmt.{length-decimal-le}
use Rattle.bw_stat.proofs.ColumnLemmas.{column_is, fewer_blank}
use Rattle.bw_stat.proofs.report.write_column.Goals as goal

pub write_digits-digits-requires : goal.write_digits-digits-requires
write_digits-digits-requires c =
    let short : length (decimal c.args.number) ≤ 20 = search (rules, length-decimal-le 20) in
    (omega (arith, short, c.requires.room), omega (arith, c.requires.within))

pub returns-clause-at_most : goal.returns-clause-at_most
returns-clause-at_most c =
    let short : length (decimal c.args.number) ≤ 20 = search (rules, length-decimal-le 20) in
    omega (
      arith,
      short,
      c.min.ensures,
      c.write_digits-digits.ensures.start,
      c.requires.room,
      c.requires.width,
    )

pub returns-clause-written : goal.returns-clause-written
returns-clause-written c =
    let digits = c.write_digits-digits.ensures in
    column_is c.args.buffer.now c.write_digits-digits.new.buf c.args.number c.args.width c.args.end
    c.write_digits-digits.result c.min.result (omega (arith, c.requires.room)) c.requires.blank
    digits.before digits.written (omega (arith, digits.start))
    (omega (arith, c.min.ensures)) (omega (
      arith,
      c.min.ensures,
      digits.start,
      c.requires.room,
      c.requires.width,
    ))

pub returns-clause-blank : goal.returns-clause-blank
returns-clause-blank c =
    let digits = c.write_digits-digits.ensures in
    fewer_blank c.write_digits-digits.new.buf c.write_digits-digits.result c.min.result
    (omega (arith, c.min.ensures))
    (digits.before ∙ fewer_blank c.args.buffer.now c.args.end c.write_digits-digits.result
    (omega (arith, digits.start)) c.requires.blank)
