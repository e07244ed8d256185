-- The goals of `has_goal` that are answered by hand.
use Rattle.std.proofs.Common.{sym, arith}
use Rattle.bw_questions.proofs.AtGroup.{children_in}
use Rattle.bw_questions.proofs.GoalRows.{goal_by_flags, goal_here}
use Rattle.bw_questions.proofs.from_root.own.has_goal.Goals as goal

pub returns-then-goals-g-gt0 : goal.returns-then-goals-g-gt0
returns-then-goals-g-gt0 c =
    sym (goal_here c.args.instance.now.rows c.args.goals.now c.rows-rows.ensures.valid.tree
    c.args.g c.requires.row (omega (arith, c.if-goals-g-gt0.true)))

pub any_marked-requires : goal.any_marked-requires
any_marked-requires c = λ k k_in.
    omega (
      arith,
      children_in c.args.instance.now.rows c.args.g c.children.result.now c.children.ensures k k_in,
      c.requires.flags,
    )

pub returns : goal.returns
returns c =
    goal_by_flags c.args.instance.now.rows c.args.goals.now c.rows-rows.ensures.valid.tree
    c.args.g c.requires.row c.args.flags.now c.requires.known
    (omega (arith, c.if-goals-g-gt0.false)) c.children.result.now c.children.ensures
    c.any_marked.result c.any_marked.ensures.some c.any_marked.ensures.none
