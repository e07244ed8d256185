-- The goals of `reaches_unlimited` that are answered by hand.
use Rattle.std.proofs.Common.{◌↔◌, IfOk, IsTrue, subst}
use Rattle.bw_model.specs.Groups.{Groups}
use Rattle.bw_questions.specs.Least.{Reaches}
use Rattle.bw_questions.proofs.least.reaches_unlimited.Goals as goal

pub returns-clause-reached : goal.returns-clause-reached
returns-clause-reached c =
    subst
    (λ (groups : Groups). IfOk c.reaches.result
    (λ enough. IsTrue enough ↔ Reaches groups c.args.group c.args.amount))
    c.in_ok-unlimited.ensures c.reaches.ensures.reached
