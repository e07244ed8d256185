-- The goals of `digits_before` that are answered by hand.
use Rattle.std.proofs.Common.{◌≡◌, ◌+◌, ◌<◌, ◌≤◌, true, get_or, length, arith, refl}
use Rattle.std.specs.Char.{is_ascii_digit}
use Rattle.std.proofs.lemmas.List.{take_rest}
use Rattle.bw_cert.proofs.OnePass.{read_more, read_ends}
use Rattle.bw_cert.proofs.spelled.digits_before.Goals as goal

pub returns-then-not-is_ascii_digit-clause-spelled :
    goal.returns-then-not-is_ascii_digit-clause-spelled
returns-then-not-is_ascii_digit-clause-spelled c =
    let within : c.loop-i.i < length c.args.text.now =
    omega (arith, c.loop-i-test.true, c.requires.room) in
    let short : c.loop-i.i ≤ 18 = omega (arith, c.loop-i-test.true) in
    let is : c.args.end ≡ get_or c.args.text.now c.loop-i.i 0 = cc in
    rw (take_rest c.args.text.now (c.loop-i.i + 1))
    (read_ends c.args.text.now c.loop-i.i c.loop-i.n c.args.end within c.loop-i.invariant.some
    short (λ more zero'. omega (arith, c.requires.first.0, zero')) is c.loop-i.invariant.read)

pub loop-i-preserved : goal.loop-i-preserved
loop-i-preserved c =
    let digit : is_ascii_digit (get_or c.args.text.now c.loop-i.i 0) ≡ true = cc in
    let within : c.loop-i.i < length c.args.text.now =
    omega (arith, c.loop-i-test.true, c.requires.room) in
    record {
      some = omega arith;
      read = rw c.from.ensures
          (read_more c.args.text.now c.loop-i.i (get_or c.args.text.now c.loop-i.i 0) c.loop-i.n
          within refl digit c.loop-i.invariant.read);
    }
