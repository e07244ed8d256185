-- The goals of `write_level` that are answered by hand.
use Rattle.std.proofs.Common.{◌≡◌, [], drop, refl, arith}
use Rattle.std.proofs.lemmas.List.{drop_all}
use Rattle.bw_cert.proofs.writing.write_level.Goals as goal

pub returns-in-None-clause-written : goal.returns-in-None-clause-written
returns-in-None-clause-written c =
    let none : drop 170 c.args.buffer.now ≡ [] = drop_all 170 c.args.buffer.now (omega arith) in
    rw (
      c.in-None.is,
      c.write_byte_before.ensures.written,
      c.write_byte_before-end.ensures.written,
      none,
    )
    refl

pub returns-in-Some-clause-written : goal.returns-in-Some-clause-written
returns-in-Some-clause-written c =
    let none : drop 170 c.args.buffer.now ≡ [] = drop_all 170 c.args.buffer.now (omega arith) in
    rw (
      c.in-Some.is,
      c.write_mark.ensures.written,
      c.write_byte_before-end.ensures.written,
      none,
    )
    refl
