-- The goal of `number_before` that is answered by hand.
use Rattle.std.proofs.Common.{◌≡◌, get_or, arith}
use Rattle.std.proofs.lemmas.List.{take_rest}
use Rattle.bw_cert.proofs.OnePass.{two_bytes, zero_spelled}
use Rattle.bw_cert.proofs.spelled.number_before.Goals as goal

pub returns-in-48-clause-spelled : goal.returns-in-48-clause-spelled
returns-in-48-clause-spelled c =
    let first : get_or c.args.text.now 0 0 ≡ 48 = cc in
    let second : get_or c.args.text.now 1 0 ≡ c.args.end = cc in
    rw (take_rest c.args.text.now 2, zero_spelled)
    (two_bytes c.args.text.now 48 c.args.end (omega (arith, c.requires.room)) first second)
