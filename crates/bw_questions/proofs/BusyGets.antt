-- A group's guarantee is what it gets by the plan in which all others ask for the most.
use Rattle.std.proofs.Common.{ℕ, ◌<◌, length, get_or, arith}
use Rattle.std.specs.Prelude.{◌↔◌}
use Rattle.bw_model.specs.Groups.{Groups, IsInstance}
use Rattle.bw_plan.specs.Laws.{HasOnePlan, ThereIsOnePlan}
use Rattle.bw_questions.specs.Busy.{busy_rows}
use Rattle.bw_questions.specs.Gets.{IsGuaranteedSo}
use Rattle.bw_questions.specs.Least.{Reaches}
use Rattle.bw_questions.proofs.AllBusy.{one_guarantee}
use Rattle.bw_questions.proofs.BusyPair.{busy_groups, busy_valid}
use Rattle.bw_questions.proofs.BusyRows.{are_busy}
use Rattle.bw_questions.proofs.LeastAmount.{least}

pub guaranteed_by_busy : ThereIsOnePlan → (groups : Groups) → IsInstance groups
    → (group amount : ℕ) → group < length groups.rows
    → Reaches (busy_groups groups group) group amount ↔ IsGuaranteedSo groups group amount
guaranteed_by_busy one groups valid group amount inside = (
  λ reached. record {
    least = get_or reached.amounts group 0;
    guarantee =
        least groups valid group (busy_rows groups.rows group) (are_busy groups.rows group) inside
        reached.amounts reached.plan;
    enough = reached.enough;
  },
  λ kept.
      let busy : HasOnePlan (busy_groups groups group) =
      one (busy_groups groups group) (busy_valid groups valid group) in
      record {
        amounts = busy.amounts;
        plan = busy.plan;
        enough =
            omega (
              arith,
              kept.enough,
              one_guarantee groups group kept.least (get_or busy.amounts group 0) kept.guarantee
                  (least groups valid group (busy_rows groups.rows group)
                  (are_busy groups.rows group) inside busy.amounts busy.plan),
            );
      },
)
