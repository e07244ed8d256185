-- One round beside its floors: what its limits leave to the guarantees.
use Rattle.std.proofs.Common.{◌≡◌, ℕ, ◌<◌, ◌≤◌, List, Bool, Option, true, false}
use Rattle.std.proofs.Common.{None, Some, length, get_or, eqb, refl, ap, sym, ◌∙◌, arith, inl, inr}
use Rattle.std.specs.Prelude.{min, not}
use Rattle.std.specs.Option.{option_map_or}
use Rattle.std.proofs.lemmas.Bool.{cases_eq, cases_lt, cases_Bool, both_ways}
use Rattle.std.proofs.lemmas.Bool.{ne_eqb, eq-eqb}
use Rattle.std.proofs.lemmas.List.{get_or_past}
use Rattle.bw_model.specs.declared.row.Row.{Row}
use Rattle.bw_model.specs.declared.limits.TheConstants.{MAX_DEMAND}
use Rattle.bw_model.specs.Groups.{Groups, IsInstance, no_row, row_of, demand_of, is_leaf}
use Rattle.bw_model.specs.Plan.{IsPlan}
use Rattle.bw_plan.specs.Laws.{HasOnePlan, ThereIsOnePlan}
use Rattle.bw_questions.specs.changes.Asked.{IsBusierAt}
use Rattle.bw_questions.proofs.changes.AskedLaw.{only_cuts}
use Rattle.bw_questions.proofs.changes.Trees.{leaf_same}
use Rattle.bw_questions.specs.Guarantee.{IsAskedOtherwise, IsGuaranteed}
use Rattle.bw_questions.specs.HeldRule.{asking, demand_where, everyone}
use Rattle.bw_questions.specs.HeldRule.{is_hungry, leaf_limit}
use Rattle.bw_questions.specs.Reading.{IsSameButDemands, IsNoneOrAtLeast, limit_at}
use Rattle.bw_questions.specs.Reading.{admitted_at}
use Rattle.bw_questions.specs.HeldLaws.{NoneBelowItsGuarantee, GuaranteeIsAdmitted}
use Rattle.bw_questions.specs.HeldLaws.{LesserIsAdmitted}
use Rattle.bw_questions.proofs.AskingRows.{where-IsInstance, everyone-IsInstance}
use Rattle.bw_questions.proofs.Leaves.{alone}
use Rattle.bw_questions.proofs.Rounds.{asked_most, asked_own, busier_by, floor_le, floor_own}
use Rattle.bw_questions.proofs.Rounds.{joined, limit_found, limit_own, same_asking, turned}

same_number : {a b : ℕ} → Some a ≡ Some b → a ≡ b
same_number e = ap (λ (o : Option ℕ). option_map_or (λ (n : ℕ). n) o 0) e

-- The least that a leaf gets of its want: the others ask for everything.
module _ (used wants : Groups) (leaf : ℕ) (vu : IsInstance used) (vw : IsInstance wants)
    (same : IsSameButDemands wants used) (below : leaf < length wants.rows)
    (is : is_leaf wants.rows leaf ≡ true) where
  beside : ℕ → Bool
  beside g = not (eqb g leaf)

  own_flag : beside leaf ≡ false
  unfolding beside
  own_flag = rw (eq-eqb leaf leaf refl) refl

  other_flag : (g : ℕ) → (g ≡ leaf → ⊥) → beside g ≡ true
  unfolding beside
  other_flag g other = rw (ne_eqb g leaf other) refl

  one : Groups
  one = asking wants (λ g. demand_where wants.rows (beside g) g)

  v_one : IsInstance one
  unfolding one
  v_one = where-IsInstance wants vw beside

  same_one : IsSameButDemands wants one
  unfolding one
  same_one = same_asking wants (λ g. demand_where wants.rows (beside g) g)

  to_everyone : IsSameButDemands one (everyone used)
  to_everyone =
      joined one wants (everyone used) (turned wants one same_one)
      (joined wants used (everyone used) same
      (same_asking used (λ g. demand_where used.rows true g)))

  one_demand : demand_of one.rows leaf ≡ demand_of wants.rows leaf
  unfolding one
  one_demand = asked_own wants beside leaf below own_flag

  one_most : (h : ℕ) → h < length wants.rows → is_leaf wants.rows h ≡ true → (h ≡ leaf → ⊥)
      → demand_of one.rows h ≡ MAX_DEMAND
  unfolding one
  one_most h h_in leaf_h other = asked_most wants beside h h_in leaf_h (other_flag h other)

  all_most : (h : ℕ) → h < length wants.rows → is_leaf wants.rows h ≡ true
      → demand_of (everyone used).rows h ≡ MAX_DEMAND
  all_most h h_in leaf_h =
      asked_most used (λ _. true) h (omega (arith, h_in, same.tree.as_many))
      (leaf_same wants.rows used.rows same.tree h ∙ leaf_h) refl

  asked_otherwise : IsAskedOtherwise wants one leaf
  asked_otherwise = record {
    valid = v_one;
    tree = same_one.tree;
    weights = same_one.weights;
    limits = same_one.limits;
    inside = λ h under. elim (cases_eq h leaf) [
      | inl here ↦ rw here one_demand
      | inr other ↦ absurd
          (both_ways _ (alone wants.rows vw.tree leaf is h other) under)
    ];
  }

  v_all : IsInstance (everyone used)
  v_all = everyone-IsInstance used vu

  demand_none : (groups : Groups) → IsInstance groups → IsSameButDemands wants groups → (h : ℕ)
      → is_leaf wants.rows h ≡ false → demand_of groups.rows h ≡ 0
  demand_none groups valid alike h inner = elim (cases_lt h (length groups.rows)) [
    | inl within ↦
        valid.inner_idle h within (leaf_same wants.rows groups.rows alike.tree h ∙ inner)
    | inr past ↦ ap (λ (r : Row). r.demand) (get_or_past groups.rows h no_row past)
  ]

  demand_past : (groups : Groups) → IsSameButDemands wants groups → (h : ℕ)
      → length wants.rows ≤ h → demand_of groups.rows h ≡ 0
  demand_past groups alike h past =
      ap (λ (r : Row). r.demand)
      (get_or_past groups.rows h no_row (omega (arith, past, alike.tree.as_many)))

  wants_all : IsSameButDemands wants (everyone used)
  wants_all = joined wants used (everyone used) same
      (same_asking used (λ g. demand_where used.rows true g))

  at_leaf : IsBusierAt one (everyone used) leaf
  at_leaf = record {
    no_less = busier_by one (everyone used) v_one to_everyone (λ h h_in leaf_h.
        let low : demand_of one.rows h ≤ MAX_DEMAND = v_one.demands h h_in in
        let high : demand_of (everyone used).rows h ≡ MAX_DEMAND =
        all_most h (omega (arith, h_in, same_one.tree.as_many))
        (sym (leaf_same wants.rows one.rows same_one.tree h) ∙ leaf_h) in
        omega (arith, low, high));
    within = omega (arith, below, same_one.tree.as_many);
    childless = leaf_same wants.rows one.rows same_one.tree leaf ∙ is;
    others = λ h other. elim (cases_lt h (length wants.rows)) [
      | inr past ↦
          demand_past (everyone used) wants_all h past ∙ sym (demand_past one same_one h past)
      | inl h_in ↦ elim (cases_Bool (is_leaf wants.rows h)) [
        | inl leaf_h ↦ all_most h h_in leaf_h ∙ sym (one_most h h_in leaf_h other)
        | inr inner ↦
            demand_none (everyone used) v_all wants_all h inner
            ∙ sym (demand_none one v_one same_one h inner)
      ]
    ];
  }

  least_is : (floors least : List ℕ) → IsPlan (everyone used) floors → IsPlan one least
      → get_or least leaf 0 ≤ get_or floors leaf 0
  least_is floors least floors_are least_are =
      let cut : get_or least leaf 0 ≡ min (demand_of one.rows leaf) (get_or floors leaf 0) =
      only_cuts one (everyone used) leaf least floors v_one v_all at_leaf least_are floors_are in
      omega (arith, cut)

  one_planned : ThereIsOnePlan → HasOnePlan one
  one_planned plans = plans one v_one

-- The floor of a leaf is no less than its guarantee.
pub floor_enough : ThereIsOnePlan → (used wants : Groups) (leaf : ℕ) → IsInstance used
    → IsInstance wants → IsSameButDemands wants used → leaf < length wants.rows
    → is_leaf wants.rows leaf ≡ true → (guaranteed : ℕ) → IsGuaranteed wants leaf guaranteed
    → (floors : List ℕ) → IsPlan (everyone used) floors → guaranteed ≤ get_or floors leaf 0
floor_enough plans used wants leaf vu vw same below is guaranteed is_guaranteed floors floors_are =
    let planned : HasOnePlan (one used wants leaf vu vw same below is) =
    one_planned used wants leaf vu vw same below is plans in
    let least : guaranteed ≤ get_or planned.amounts leaf 0 =
    is_guaranteed.none_less (one used wants leaf vu vw same below is) planned.amounts
    (asked_otherwise used wants leaf vu vw same below is) planned.plan in
    let floor : get_or planned.amounts leaf 0 ≤ get_or floors leaf 0 =
    least_is used wants leaf vu vw same below is floors planned.amounts floors_are planned.plan in
    omega (arith, least, floor)

pub none_below : ThereIsOnePlan → NoneBelowItsGuarantee
none_below plans used wants hungry demands amounts limits leaf guaranteed vu round vw same below is
    is_guaranteed =
    let floor : guaranteed ≤ get_or round.floors leaf 0 =
    floor_enough plans used wants leaf vu vw same below is guaranteed is_guaranteed round.floors
    round.floors_are in
    let leaf_used : is_leaf used.rows leaf ≡ true =
    leaf_same wants.rows used.rows same.tree leaf ∙ is in
    let here : leaf < length used.rows = omega (arith, below, same.tree.as_many) in
    λ limit found. elim (cases_Bool round.calm) [
      | inl calm ↦
          omega (
            arith,
            floor,
            floor_own used hungry demands amounts limits vu round leaf limit here
                (sym (limit_own used hungry demands amounts limits round leaf here leaf_used calm)
                ∙ found),
          )
      | inr busy ↦
          let held : leaf_limit (row_of used.rows leaf) (is_hungry hungry leaf)
          (get_or round.floors leaf 0) (get_or amounts leaf 0) ≡ limit =
          same_number (sym (limit_found used hungry demands amounts limits round leaf here leaf_used
          busy) ∙ found) in
          omega (
            arith,
            floor,
            held,
            floor_le (row_of used.rows leaf) (is_hungry hungry leaf) (get_or round.floors leaf 0)
                (get_or amounts leaf 0),
          )
    ]

-- What a limit of at least a number admits.
admits_least : (wants : Groups) (limits : List (Option ℕ)) (l least : ℕ)
    → is_leaf wants.rows l ≡ true → IsNoneOrAtLeast least (limit_at limits l)
    → min (demand_of wants.rows l) least ≤ admitted_at wants limits l
admits_least wants limits l least leaf none_less =
    (elim (limit_at limits l) as (λ o. limit_at limits l ≡ o
    → min (demand_of wants.rows l) least ≤ admitted_at wants limits l) [
      | None ↦ λ e. rw (leaf, e) (omega arith)
      | Some limit ↦ λ e.
          let less : least ≤ limit = none_less limit e in rw (leaf, e) (omega (arith, less))
    ]) refl

admits_wanted : (wants : Groups) (limits : List (Option ℕ)) (l : ℕ) → is_leaf wants.rows l ≡ true
    → admitted_at wants limits l ≤ demand_of wants.rows l
admits_wanted wants limits l leaf =
    (elim (limit_at limits l) as (λ o. limit_at limits l ≡ o
    → admitted_at wants limits l ≤ demand_of wants.rows l) [
      | None ↦ λ e. rw (leaf, e) (omega arith)
      | Some limit ↦ λ e. rw (leaf, e) (omega arith)
    ]) refl

pub all_admitted : ThereIsOnePlan → GuaranteeIsAdmitted
all_admitted plans used wants hungry demands amounts limits leaf vu round vw same below is
    is_guaranteed =
    let none_less : IsNoneOrAtLeast (demand_of wants.rows leaf) (limit_at limits leaf) =
    none_below plans used wants hungry demands amounts limits leaf (demand_of wants.rows leaf) vu
    round vw same below is is_guaranteed in
    omega (
      arith,
      admits_least wants limits leaf (demand_of wants.rows leaf) is none_less,
      admits_wanted wants limits leaf is,
    )

pub lesser_admitted : ThereIsOnePlan → LesserIsAdmitted
lesser_admitted plans used wants hungry demands amounts limits leaf guaranteed vu round vw same
    below is is_guaranteed =
    let all : IsSameButDemands wants (everyone wants) =
    same_asking wants (λ g. demand_where wants.rows true g) in
    admits_least wants limits leaf guaranteed is
    (none_below plans used (everyone wants) hungry demands amounts limits leaf guaranteed vu round
    (everyone-IsInstance wants vw)
    (joined (everyone wants) wants used (turned wants (everyone wants) all) same)
    (omega (arith, below, all.tree.as_many))
    (leaf_same wants.rows (everyone wants).rows all.tree leaf ∙ is) is_guaranteed)
