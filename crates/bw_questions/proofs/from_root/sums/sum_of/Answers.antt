-- The goal of `sum_of` that is answered by hand.
use Rattle.std.proofs.Common.{arith}
use Rattle.bw_questions.proofs.AtGroup.{children_in}
use Rattle.bw_questions.proofs.from_root.sums.sum_of.Goals as goal

pub sum_at-requires : goal.sum_at-requires
sum_at-requires c = λ k k_in.
    omega (
      arith,
      children_in c.args.instance.now.rows c.args.g c.children.result.now c.children.ensures k k_in,
      c.requires.sums,
    )
