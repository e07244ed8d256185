-- The goals of `tuned_by_guarantee` that are answered by hand.
use Rattle.std.proofs.Common.{◌≡◌, ℕ, ◌<◌, ◌≤◌, List, Bool, true, length, get_or, ap, sym, ◌∙◌}
use Rattle.std.proofs.Common.{subst, inl, inr}
use Rattle.bw_model.specs.Groups.{Groups}
use Rattle.bw_questions.specs.declared.from_root.least.Tuned.{Tuned}
use Rattle.bw_questions.specs.declared.from_root.least.Tuned.TheVariants.{Met, Unmet}
use Rattle.bw_questions.specs.declared.from_root.measure.Measure.TheVariants.{Planned, Guaranteed}
use Rattle.bw_questions.specs.FromRoot.{AreNeverMet, IsReweightedAt, IsTunedFromRoot}
use Rattle.bw_questions.specs.HeldRule.{demand_where, everyone}
use Rattle.bw_questions.proofs.AskingRows.{as_many}
use Rattle.bw_questions.proofs.KeptGoals.{are_weights, never_kept, tuned_busy, unmet_busy}
use Rattle.bw_questions.proofs.Meetings.{no_value}
use Rattle.bw_questions.proofs.from_root.guaranteed.tuned_by_guarantee.Goals as goal

-- The answer of the busy instance is one of all leaves that ask for the most.
of_everyone : (groups busy : Groups) (goals : List ℕ) (may : List Bool) (told tuned : Tuned)
    → busy ≡ everyone groups → told ≡ tuned → IsTunedFromRoot Planned busy goals may told
    → IsTunedFromRoot Planned (everyone groups) goals may tuned
of_everyone groups busy goals may told tuned same is found =
    subst (λ (t : Tuned). IsTunedFromRoot Planned (everyone groups) goals may t) is
    (subst (λ (g : Groups). IsTunedFromRoot Planned g goals may told) same found)

-- Weights that are told are of rows that may change.
told_reweighted : (groups : Groups) (goals : List ℕ) (may : List Bool) (tuned : Groups)
    → IsTunedFromRoot Planned groups goals may (Met tuned) → IsReweightedAt groups tuned may
told_reweighted groups goals may tuned found = elim found [
  | inl raised ↦ raised.reweighted
  | inr all ↦ all.reweighted
]

pub returns-in-Some : goal.returns-in-Some
returns-in-Some c =
    let found : (c.in-Some.group < length c.args.instance.now.rows)
    × (get_or c.in_ok-gathered.gathered.most.items c.in-Some.group 0
    < get_or c.args.goals.now c.in-Some.group 0)
    × ((k : ℕ) → c.in-Some.group < k → k < length c.args.instance.now.rows
    → get_or c.args.goals.now k 0 ≤ get_or c.in_ok-gathered.gathered.most.items k 0) =
    rw (c.in-Some.is, c.as_slice.ensures.value) at c.beyond.ensures.some in
    never_kept c.args.instance.now c.rows-rows.ensures.valid c.args.may.now
    c.there_is_one_plan.ensures c.demands_inside_only_cut.ensures
    c.in_ok-gathered.gathered.most.items c.args.goals.now c.in_ok-gathered.ensures.mosts
    c.in-Some.group found.0 found.1 found.2

pub tuned_by_plan-requires-clause-goals : goal.tuned_by_plan-requires-clause-goals
tuned_by_plan-requires-clause-goals c =
    let groups = c.args.instance.now in
    c.requires.goals
    ∙ sym (ap (λ (g : Groups). length g.rows) c.in_ok-busy.ensures.everyone
    ∙ as_many groups (λ g. demand_where groups.rows true g))

pub tuned_by_plan-requires-clause-may : goal.tuned_by_plan-requires-clause-may
tuned_by_plan-requires-clause-may c =
    let groups = c.args.instance.now in
    c.requires.may
    ∙ sym (ap (λ (g : Groups). length g.rows) c.in_ok-busy.ensures.everyone
    ∙ as_many groups (λ g. demand_where groups.rows true g))

pub weighed_as-requires : goal.weighed_as-requires
weighed_as-requires c =
    let groups = c.args.instance.now in
    are_weights groups c.rows-rows.ensures.valid c.args.may.now c.in-Met.tuned
    (told_reweighted (everyone groups) c.args.goals.now c.args.may.now c.in-Met.tuned
    (of_everyone groups c.in_ok-busy.busy c.args.goals.now c.args.may.now c.in_ok-tuned.field-0
    (Met c.in-Met.tuned) c.in_ok-busy.ensures.everyone c.in-Met.is c.in_ok-tuned.ensures))

pub returns-in-Met : goal.returns-in-Met
returns-in-Met c =
    let groups = c.args.instance.now in
    let enough : (h : ℕ) → h < length groups.rows
    → get_or c.args.goals.now h 0 ≤ get_or c.in_ok-gathered.gathered.most.items h 0 =
    rw (no_value _ c.in_default.not-Some, c.as_slice.ensures.value) at c.beyond.ensures.none in
    subst
    (λ (g : Groups). IsTunedFromRoot Guaranteed groups c.args.goals.now c.args.may.now (Met g))
    (sym c.in_ok-weighed_as-in-Met.ensures)
    (tuned_busy groups c.rows-rows.ensures.valid c.args.may.now c.there_is_one_plan.ensures
    c.demands_inside_only_cut.ensures c.in_ok-gathered.gathered.most.items c.args.goals.now
    c.in_ok-gathered.ensures.mosts enough c.in-Met.tuned
    (of_everyone groups c.in_ok-busy.busy c.args.goals.now c.args.may.now c.in_ok-tuned.field-0
    (Met c.in-Met.tuned) c.in_ok-busy.ensures.everyone c.in-Met.is c.in_ok-tuned.ensures))

pub returns : goal.returns
returns c =
    let groups = c.args.instance.now in
    let enough : (h : ℕ) → h < length groups.rows
    → get_or c.args.goals.now h 0 ≤ get_or c.in_ok-gathered.gathered.most.items h 0 =
    rw (no_value _ c.in_default.not-Some, c.as_slice.ensures.value) at c.beyond.ensures.none in
    let unmet : AreNeverMet Planned (everyone groups) c.args.goals.now c.args.may.now
    c.in-Unmet.group =
    of_everyone groups c.in_ok-busy.busy c.args.goals.now c.args.may.now c.in_ok-tuned.field-0
    (Unmet c.in-Unmet.group) c.in_ok-busy.ensures.everyone c.in-Unmet.is c.in_ok-tuned.ensures in
    unmet_busy groups c.rows-rows.ensures.valid c.args.may.now c.there_is_one_plan.ensures
    c.demands_inside_only_cut.ensures c.in_ok-gathered.gathered.most.items c.args.goals.now
    c.in_ok-gathered.ensures.mosts enough c.in-Unmet.group unmet
