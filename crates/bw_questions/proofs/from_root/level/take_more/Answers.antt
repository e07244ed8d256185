-- The goals of `take_more` that are answered by hand.
use Rattle.std.proofs.Common.{arith}
use Rattle.bw_questions.proofs.Levels.{more_so_far, more_at_last}
use Rattle.bw_questions.proofs.from_root.level.take_more.Goals as goal

pub returns-then-part-left : goal.returns-then-part-left
returns-then-part-left c = λ _ parts same needs takes.
    more_at_last parts c.loop-k.k c.args.amount c.loop-k.left c.max-part.result
    (omega (arith, same, c.loop-k-test.true)) (c.loop-k.invariant.so_far parts same needs takes)
    c.if-part-left.true
    (omega (
      arith,
      c.max-part.ensures,
      c.takes.ensures,
      needs c.loop-k.k c.loop-k-test.true,
      takes c.loop-k.k c.loop-k-test.true,
    ))

pub loop-k-preserved : goal.loop-k-preserved
loop-k-preserved c = record {
  so_far = λ parts same needs takes.
      more_so_far parts c.loop-k.k c.args.amount c.loop-k.left c.max-part.result
      (omega (arith, same, c.loop-k-test.true))
      (c.loop-k.invariant.so_far parts same needs takes) (omega (arith, c.if-part-left.false))
      (omega (
        arith,
        c.max-part.ensures,
        c.takes.ensures,
        needs c.loop-k.k c.loop-k-test.true,
        takes c.loop-k.k c.loop-k-test.true,
      ));
}
