-- The next group up keeps what is lowered.
use Rattle.std.proofs.Common.{◌-◌, ◌≤◌, slice_index, ◌∙◌, ap, arith, refl}
use Rattle.bw_model.proofs.CallerLemmas.{reach}
use Rattle.bw_pool.proofs.StepsUp.{falls, on_the_way, lowered_goes, fits_goes, untouched_goes}
use Rattle.bw_pool.proofs.pool.lower.Goals as goal

pub loop-at-smaller : goal.loop-at-smaller
loop-at-smaller c = falls c.args.parents.now c.requires.tree c.loop-at.at c.in-Some.group
    c.loop-at.invariant.on_the_way c.in-Some.is

pub overflow_sub-drawn : goal.overflow_sub-drawn
overflow_sub-drawn c =
    let g = c.in-Some.group in
    let here = (fits_goes c.args.parents.now c.requires.tree c.loop-at.at g
    c.loop-at.invariant.on_the_way c.in-Some.is
    (λ g. c.args.n ≤ slice_index c.args.drawn.now g) c.loop-at.invariant.enough).0 in
    let e = ap reach c.in-Some.is in
    let same = c.loop-at.invariant.untouched g (omega (arith, e)) in
    omega (arith, here, same)

pub loop-at-preserved : goal.loop-at-preserved
loop-at-preserved c = record {
  on_the_way = on_the_way c.args.parents.now c.requires.tree c.loop-at.at c.in-Some.group
      c.loop-at.invariant.on_the_way c.in-Some.is;
  enough = (fits_goes c.args.parents.now c.requires.tree c.loop-at.at c.in-Some.group
      c.loop-at.invariant.on_the_way c.in-Some.is
      (λ g. c.args.n ≤ slice_index c.args.drawn.now g) c.loop-at.invariant.enough).1;
  untouched = untouched_goes c.args.parents.now c.requires.tree c.loop-at.at c.in-Some.group
      c.loop-at.invariant.on_the_way c.in-Some.is
      c.loop-at.drawn c.args.drawn.now (slice_index c.loop-at.drawn c.in-Some.group - c.args.n)
      c.loop-at.invariant.untouched;
  the_rest =
      lowered_goes c.args.parents.now c.requires.tree c.loop-at.at c.in-Some.group
      c.loop-at.invariant.on_the_way c.in-Some.is
      c.args.n (slice_index c.loop-at.drawn c.in-Some.group - c.args.n) c.loop-at.drawn refl
      ∙ c.loop-at.invariant.the_rest;
}
