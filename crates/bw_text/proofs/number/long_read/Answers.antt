-- The goals of `long_read` that are answered by hand.
use Rattle.std.proofs.Common.{◌≡◌, true, get_or, arith, refl}
use Rattle.std.specs.Char.{is_ascii_digit}
use Rattle.bw_text.proofs.Numbers.{reading_steps, all_read, too_great_read}
use Rattle.bw_text.proofs.number.long_read.Goals as goal

pub returns-in_default : goal.returns-in_default
returns-in_default c =
    let digit : is_ascii_digit (get_or c.args.word.now c.loop-b.b-index 0) ≡ true = cc in
    let next = reading_steps c.args.word.now c.loop-b.b-index c.loop-b.n _ c.loop-b-test.true refl
    digit c.loop-b.invariant.0 in
    too_great_read c.args.word.now _ _ c.too_great.result (omega (arith, c.in_default.ensures)) next
    c.too_great.ensures

pub loop-b-preserved : goal.loop-b-preserved
loop-b-preserved c =
    let digit : is_ascii_digit (get_or c.args.word.now c.loop-b.b-index 0) ≡ true = cc in (
      rw c.in-Some.ensures.0
          (reading_steps c.args.word.now c.loop-b.b-index c.loop-b.n _ c.loop-b-test.true refl digit
          c.loop-b.invariant.0),
      c.in-Some.ensures.1,
    )

pub returns : goal.returns
returns c = all_read c.args.word.now c.loop-b.b-index c.loop-b.n c.loop-b.invariant.1
    c.loop-b-test.false c.loop-b.invariant.0
