-- The goals of `short_read` that are answered by hand.
use Rattle.std.proofs.Common.{◌≡◌, ◌<◌, true, get_or, arith, refl}
use Rattle.std.specs.Char.{is_ascii_digit}
use Rattle.bw_text.proofs.Numbers.{reading_steps, all_read, digit_range, short_step, short_fits}
use Rattle.bw_text.proofs.number.short_read.Goals as goal

pub overflow_mul-n : goal.overflow_mul-n
overflow_mul-n c =
    let few : c.loop-b.b-index < 19 = omega arith in
    let step = short_step c.loop-b.n c.loop-b.b-index 0 c.loop-b.invariant.1 few (omega arith) in
    record { fits = omega (arith, step.1) }

pub overflow_add-n : goal.overflow_add-n
overflow_add-n c =
    let few : c.loop-b.b-index < 19 = omega arith in
    let digit : is_ascii_digit (get_or c.args.word.now c.loop-b.b-index 0) ≡ true = cc in
    let range = digit_range (get_or c.args.word.now c.loop-b.b-index 0) digit in
    let step = short_step c.loop-b.n c.loop-b.b-index c.from.result c.loop-b.invariant.1 few
    (omega (arith, c.from.ensures, range)) in
    record { fits = step.1 }

pub loop-b-preserved : goal.loop-b-preserved
loop-b-preserved c =
    let few : c.loop-b.b-index < 19 = omega arith in
    let digit : is_ascii_digit (get_or c.args.word.now c.loop-b.b-index 0) ≡ true = cc in
    let range = digit_range (get_or c.args.word.now c.loop-b.b-index 0) digit in
    let step = short_step c.loop-b.n c.loop-b.b-index c.from.result c.loop-b.invariant.1 few
    (omega (arith, c.from.ensures, range)) in (
      rw c.from.ensures
          (reading_steps c.args.word.now c.loop-b.b-index c.loop-b.n _ c.loop-b-test.true refl digit
          c.loop-b.invariant.0),
      step.0,
    )

pub returns : goal.returns
returns c = all_read c.args.word.now c.loop-b.b-index c.loop-b.n
    (short_fits c.loop-b.n c.loop-b.b-index c.loop-b.invariant.1 (omega arith))
    c.loop-b-test.false c.loop-b.invariant.0
