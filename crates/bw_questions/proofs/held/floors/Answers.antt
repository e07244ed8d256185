-- The goals of `floors` that are answered by hand.
use Rattle.std.proofs.Common.{◌∙◌, true}
use Rattle.bw_questions.specs.HeldRule.{demand_where, everyone}
use Rattle.bw_questions.proofs.AskingRows.{amount_each, as_many, everyone-IsInstance}
use Rattle.bw_questions.proofs.held.floors.Goals as goal

pub returns-clause-plan : goal.returns-clause-plan
returns-clause-plan c = rw c.in_ok-busy.ensures.everyone at c.in_ok-planned.ensures

pub returns-clause-each : goal.returns-clause-each
returns-clause-each c =
    let groups = c.args.reading.now in
    amount_each (everyone groups) (everyone-IsInstance groups c.rows-rows.ensures.valid)
    c.in_ok-planned.planned.amounts.items (returns-clause-plan c)
    ∙ as_many groups (λ g. demand_where groups.rows true g)
