-- The goals of `is_free` that are answered by hand.
use Rattle.std.proofs.Common.{◌<◌, ◌∙◌, ap, sym, arith, length}
use Rattle.bw_model.specs.declared.row.Row.{Row}
use Rattle.bw_questions.proofs.FreeRows.{far_free, near_bound, root_bound}
use Rattle.bw_questions.proofs.other_limits.free.is_free.Goals as goal

pub returns-then-h-eq0 : goal.returns-then-h-eq0
returns-then-h-eq0 c =
    rw c.if-h-eq0.true (sym (root_bound c.args.instance.now.rows c.args.goals.now))

pub returns-then-has_goal_near : goal.returns-then-has_goal_near
returns-then-has_goal_near c =
    let below : c.loop-g.g < length c.args.instance.now.rows =
    omega (arith, c.loop-g-test.true, ap (length {A = Row}) c.rows-count.ensures.rows) in
    sym (near_bound c.args.instance.now.rows c.args.goals.now c.args.h c.loop-g.g below
    (sym c.has_goal_near.ensures ∙ c.if-has_goal_near.true))

pub returns : goal.returns
returns c =
    let apart = c.if-h-eq0.false in
    sym (far_free c.args.instance.now.rows c.args.goals.now c.args.h (omega arith) (λ g below.
    c.loop-g.invariant.so_far g (omega (
      arith,
      below,
      c.loop-g-test.false,
      ap (length {A = Row}) c.rows-count.ensures.rows,
    ))))
