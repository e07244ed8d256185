-- The goals of `goals_of` that are answered by hand.
use Rattle.std.proofs.Common.{subst, ◌∙◌}
use Rattle.bw_model.specs.Groups.{Groups}
use Rattle.bw_columns.specs.Goals.{AreGoalsTold}
use Rattle.bw_columns.proofs.goals.goals_of.Goals as goal

pub returns-clause-told : goal.returns-clause-told
returns-clause-told c =
    subst (λ (g : Groups). AreGoalsTold c.args.measure g c.args.goals.now
    c.in_ok-kept.kept.items c.in_ok-come_to.come_to.items) c.in_ok-instance.ensures.groups
    (record { halves = c.in_ok-kept.ensures; sums = c.in_ok-come_to.ensures })

pub returns-clause-long : goal.returns-clause-long
returns-clause-long c =
    let rows = c.in_ok-instance.ensures.rows in
    record {
      kept = c.in_ok-kept.ensures.one_each ∙ rows;
      come_to = c.in_ok-come_to.ensures.one_each ∙ rows;
    }
