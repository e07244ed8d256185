-- Where each leaf is used, workers draw the plan.
use Rattle.std.proofs.Common.{◌≡◌, ℕ, List, Option, true, false, refl, sym, ap, subst, ◌∙◌}
use Rattle.std.specs.Prelude.{codes, slice_index}
use Rattle.bw_model.specs.Groups.{Groups, IsInstance}
use Rattle.bw_model.specs.Plan.{IsPlan}
use Rattle.bw_demand.specs.Demands.{Demands, IsGathered}
use Rattle.bw_pool.specs.Drained.{IsDrawnOut}
use Rattle.bw_pool.proofs.CallerLemmas.{plan_is_planned}
use Rattle.bw_streams.specs.Answers.{number_line}
use Rattle.bw_tree.specs.Snapshot.{instance_of, base_of}
use Rattle.bw_hierarchy.specs.State.{HierarchyState, booked_period}
use Rattle.bw_commands.specs.Period.{IsPeriod}

no : true ≡ false → ⊥
no e = cc

pub all_used : (groups : Groups) (amounts : List ℕ) → IsInstance groups → IsPlan groups amounts
    → IsDrawnOut (λ leaf. true) groups.rows amounts amounts
all_used groups amounts known plan =
    let planned = plan_is_planned groups amounts known plan in
    record {
      one_each = planned.one_each;
      used = λ g lt leaf used. refl;
      unused = λ g lt leaf unused. absurd (no unused);
      inner = λ g lt leaf. sym (planned.inner g lt leaf);
    }

-- a period in which the amounts of the plan are booked
pub is_period : (h after : HierarchyState) (groups : Groups) (base : List (Option ℕ))
    (amounts drawn : List ℕ) (demands : Demands) → groups ≡ instance_of h.tree h.shape
    → base ≡ base_of h.tree.groups h.shape → IsInstance (instance_of h.tree h.shape)
    → IsPlan groups amounts → IsGathered groups demands → drawn ≡ amounts
    → after ≡ booked_period h groups.rows base demands.want drawn
    → (text : List ℕ) × IsPeriod h (λ leaf. true) text after
is_period h after groups base amounts drawn demands groups_are base_is known plan gathered drawn_is
    state =
    let planned : IsPlan (instance_of h.tree h.shape) amounts =
    subst (λ g. IsPlan g amounts) groups_are plan in (
      number_line (codes "served ") (slice_index amounts 0),
      record {
        amounts = amounts;
        demands = demands;
        drawn = amounts;
        plan = planned;
        gathered = subst (λ g. IsGathered g demands) groups_are gathered;
        drawn_out = all_used (instance_of h.tree h.shape) amounts known planned;
        is = refl;
        state = state ∙ ap (λ g. booked_period h g.rows base demands.want drawn) groups_are
            ∙ ap (λ b. booked_period h (instance_of h.tree h.shape).rows b demands.want drawn)
            base_is
            ∙ ap (λ d. booked_period h (instance_of h.tree h.shape).rows
            (base_of h.tree.groups h.shape) demands.want d) drawn_is;
      },
    )
