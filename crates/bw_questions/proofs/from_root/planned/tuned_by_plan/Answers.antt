-- The goal of `tuned_by_plan` that is answered by hand.
use Rattle.bw_questions.specs.FromRoot.{IsNeverReached}
use Rattle.bw_questions.proofs.Lightened.{tuned_light}
use Rattle.bw_questions.proofs.from_root.planned.tuned_by_plan.Goals as goal

pub returns-in_ok-tuned-in-Unmet : goal.returns-in_ok-tuned-in-Unmet
returns-in_ok-tuned-in-Unmet c =
    let never : IsNeverReached c.args.instance.now c.args.goals.now c.args.may.now
    c.in-Unmet.field-0 = rw c.in-Unmet.is at c.in_ok-tuned.ensures in
    tuned_light c.args.instance.now c.rows-rows.ensures.valid c.args.may.now
    c.in_ok-light-in-Unmet.light c.in_ok-light-in-Unmet.ensures c.args.goals.now
    c.in-Unmet.field-0 never c.in_ok-tuned-in-Unmet.tuned c.in_ok-tuned-in-Unmet.ensures
