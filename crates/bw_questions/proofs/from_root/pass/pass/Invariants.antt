-- What stands at each turn of the loop in `pass`.
use Rattle.bw_questions.specs.Passes.{IsPassed}
use Rattle.bw_questions.proofs.from_root.pass.pass.Given as goal

abbrev pub invariant-loop-g : goal.invariant-loop-g
invariant-loop-g l = record {
  so_far : IsPassed l.instance l.tops l.most l.needs l.g l.passed.weights.items
      l.passed.amounts.items;
}
