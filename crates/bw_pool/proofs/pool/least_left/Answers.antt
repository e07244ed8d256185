-- The next group up keeps the least of what is left.
use Rattle.std.proofs.Common.{◌≡◌, ℕ, ◌-◌, slice_index, ◌∙◌, sym, ap, arith}
use Rattle.bw_pool.specs.Parents.{bare_rows}
use Rattle.bw_pool.specs.Pool.{least}
use Rattle.bw_model.proofs.CallerLemmas.{way_from}
use Rattle.bw_model.specs.Groups.{path_up}
use Rattle.bw_pool.proofs.Trees.{least_all, least_le}
use Rattle.bw_pool.proofs.StepsUp.{falls, on_the_way, least_goes}
use Rattle.bw_pool.proofs.pool.least_left.Goals as goal

pub loop-at-smaller : goal.loop-at-smaller
loop-at-smaller c = falls c.args.parents.now c.requires.tree c.loop-at.at c.in-Some.group
    c.loop-at.invariant.on_the_way c.in-Some.is

pub loop-at-preserved : goal.loop-at-preserved
loop-at-preserved c = record {
  on_the_way = on_the_way c.args.parents.now c.requires.tree c.loop-at.at c.in-Some.group
      c.loop-at.invariant.on_the_way c.in-Some.is;
  the_rest =
      least_goes c.args.parents.now c.requires.tree c.loop-at.at c.in-Some.group
      c.loop-at.invariant.on_the_way c.in-Some.is
      (λ g. slice_index c.args.ceiling.now g - slice_index c.args.drawn.now g) c.loop-at.least
      c.min-least.result c.min-least.ensures
      ∙ c.loop-at.invariant.the_rest;
}

pub returns-clause-room : goal.returns-clause-room
returns-clause-room c =
    let f : ℕ → ℕ = λ g. slice_index c.args.ceiling.now g - slice_index c.args.drawn.now g in
    let end = ap (λ a. least f (way_from (bare_rows c.args.parents.now) a) c.loop-at.least)
    c.in_default.is in
    let e = sym end ∙ c.loop-at.invariant.the_rest in
    least_all f (path_up (bare_rows c.args.parents.now) c.args.leaf) c.args.bound c.loop-at.least
    (omega (arith, e))

pub returns-then-least-eq0-clause-value : goal.returns-then-least-eq0-clause-value
returns-then-least-eq0-clause-value c =
    let none : c.loop-at.least ≡ 0 = c.if-least-eq0.true in
    let small = least_le (λ g. slice_index c.args.ceiling.now g - slice_index c.args.drawn.now g)
    (way_from (bare_rows c.args.parents.now) c.loop-at.at)
    c.loop-at.least in
    omega (arith, none, small, c.loop-at.invariant.the_rest)

pub returns-then-least-eq0-clause-room : goal.returns-then-least-eq0-clause-room
returns-then-least-eq0-clause-room c =
    least_all (λ g. slice_index c.args.ceiling.now g - slice_index c.args.drawn.now g)
    (path_up (bare_rows c.args.parents.now) c.args.leaf) c.args.bound 0
    (omega arith)
