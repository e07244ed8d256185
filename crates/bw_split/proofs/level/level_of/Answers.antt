-- The goals of `level_of` that are answered by hand.
use Rattle.std.proofs.Common.{◌<◌, ◌+◌, ℕ, get_or, arith}
use Rattle.bw_split.proofs.LastMarks.{LastOf, last_kept, last_first, last_taken, last_stays}
use Rattle.bw_split.proofs.level.level_of.Goals as goal
use Rattle.bw_split.proofs.level.level_of.Goals.{then-parts-i-gt0+in-None}
use Rattle.bw_split.proofs.level.level_of.Goals.{then-parts-i-gt0+in-Some+then-parts-i}
use Rattle.bw_split.proofs.level.level_of.Goals.{then-parts-i-gt0+in-Some+else-parts-i}
use Rattle.bw_split.proofs.level.level_of.Goals.{else-parts-i-gt0}

pub loop-i-preserved : goal.loop-i-preserved
loop-i-preserved c =
    let positive : (k : ℕ) → k < c.loop-i.i + 1 → 0 < get_or c.args.weights.now k 0 =
    λ k below. let e = c.requires.weights_in_range k (omega (arith, c.requires.weights_each)) in
    omega (arith, e.0) in
    let so_far : LastOf c.args.weights.now c.args.parts.now c.loop-i.i c.loop-i.best =
    c.loop-i.invariant in
    elim c.if-parts-i-gt0.branch [
      | then-parts-i-gt0+in-None w ↦
          rw w.best-is (last_first c.args.weights.now c.args.parts.now c.loop-i.i positive
          (rw w.in-None.is at so_far) w.if-parts-i-gt0.true)
      | then-parts-i-gt0+in-Some+then-parts-i w ↦
          rw w.best-is (last_stays c.args.weights.now c.args.parts.now c.loop-i.i positive
          w.in-Some.b (rw w.in-Some.is at so_far) w.if-parts-i.true)
      | then-parts-i-gt0+in-Some+else-parts-i w ↦
          rw w.best-is (last_taken c.args.weights.now c.args.parts.now c.loop-i.i positive
          w.in-Some.b
          (rw w.in-Some.is at so_far) w.if-parts-i-gt0.true w.if-parts-i.false)
      | else-parts-i-gt0 w ↦
          rw w.best-is (last_kept c.args.weights.now c.args.parts.now c.loop-i.i positive
          c.loop-i.best so_far (omega (arith, w.if-parts-i-gt0.false)))
    ]
