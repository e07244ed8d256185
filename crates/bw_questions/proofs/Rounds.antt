-- One round: its limits beside its floors, its own plan and the plan of the wants.
use Rattle.std.proofs.Common.{◌≡◌, ℕ, zero, suc, ◌<◌, ◌≤◌, ◌⊎◌, List, Bool, Option, true, false}
use Rattle.std.proofs.Common.{None, Some, length, get_or, refl, ap, sym, ◌∙◌, arith, inl, inr}
use Rattle.std.specs.Prelude.{min, max, not, if◌then◌else◌}
use Rattle.std.specs.Option.{option_map_or}
use Rattle.std.proofs.lemmas.Bool.{cases_lt, cases_Bool, both_ways, lt-ltb, le-ltb}
use Rattle.std.proofs.lemmas.List.{get_or_past}
use Rattle.std.proofs.lemmas.List.FromFn.{get_or-map-range_with_len, length-map-range_with_len}
use Rattle.bw_model.specs.declared.row.Row.{Row}
use Rattle.bw_model.specs.declared.limits.TheConstants.{MAX_CAPACITY, MAX_DEMAND}
use Rattle.bw_model.specs.Allocation.{total}
use Rattle.bw_model.specs.Groups.{Groups, IsInstance, no_row, row_of, demand_of, limit_of, is_leaf}
use Rattle.bw_model.specs.Plan.{IsPlan}
use Rattle.bw_questions.specs.changes.Asked.{IsBusier}
use Rattle.bw_questions.proofs.changes.AskedLaw.{serve_no_more, unused_changes}
use Rattle.bw_questions.proofs.changes.Trees.{leaf_same}
use Rattle.bw_questions.specs.HeldRule.{IsRound, asked_within, asking, demand_where, everyone}
use Rattle.bw_questions.specs.HeldRule.{headroom}
use Rattle.bw_questions.specs.HeldRule.{is_hungry, leaf_limit, own_limit, round_limit, round_of}
use Rattle.bw_questions.specs.HeldRule.{with_eighth}
use Rattle.bw_questions.specs.Reading.{IsSameButDemands, IsTrueReading, limit_at}
use Rattle.bw_questions.specs.Reading.{admitted_at, admitted}
use Rattle.bw_questions.specs.HeldLaws.{CalmHoldsNobody}
use Rattle.bw_questions.specs.HeldLaws.{NoneAboveItsLimit}
use Rattle.bw_questions.specs.HeldLaws.{IsWithinPlan, LimitsAdmitThePlan}
use Rattle.bw_questions.specs.HeldLaws.{AskedIsAdmittedAsPlanned}
use Rattle.bw_questions.proofs.changes.OtherDemands.{same_tree, weights_same}
use Rattle.bw_questions.proofs.AskingRows.{amount_small, as_many, demand_at, asking_alike}
use Rattle.bw_questions.proofs.AskingRows.{asking_limits}
use Rattle.bw_questions.proofs.AskingRows.{round-IsInstance, everyone-IsInstance}
use Rattle.bw_questions.proofs.Leaves.{leaf_total, totals_less, within_limit, within_demand}

-- Instances that differ in demands alone.
pub same_asking : (groups : Groups) (demand : ℕ → ℕ)
    → IsSameButDemands groups (asking groups demand)
same_asking groups demand = record {
  tree = same_tree groups.rows (asking groups demand).rows (asking_alike groups demand);
  weights = weights_same groups.rows (asking groups demand).rows (asking_alike groups demand);
  limits = asking_limits groups demand;
}

pub turned : (a b : Groups) → IsSameButDemands a b → IsSameButDemands b a
turned a b same = record {
  tree = record { as_many = sym same.tree.as_many; parents = λ g. sym (same.tree.parents g) };
  weights = λ h. sym (same.weights h);
  limits = λ h. sym (same.limits h);
}

pub joined : (a b c : Groups) → IsSameButDemands a b → IsSameButDemands b c → IsSameButDemands a c
joined a b c one two = record {
  tree = record {
    as_many = two.tree.as_many ∙ one.tree.as_many;
    parents = λ g. two.tree.parents g ∙ one.tree.parents g;
  };
  weights = λ h. two.weights h ∙ one.weights h;
  limits = λ h. two.limits h ∙ one.limits h;
}

-- No leaf asks for less, and other groups ask for nothing.
pub busier_by : (a b : Groups) → IsInstance a → IsSameButDemands a b
    → ((l : ℕ) → l < length a.rows → is_leaf a.rows l ≡ true
    → demand_of a.rows l ≤ demand_of b.rows l) → IsBusier a b
busier_by a b va same less = record {
  tree = same.tree;
  weights = same.weights;
  limits = same.limits;
  demands = λ h. elim (cases_lt h (length a.rows)) [
    | inr past ↦
        let none : demand_of a.rows h ≡ 0 =
        ap (λ (r : Row). r.demand) (get_or_past a.rows h no_row past) in
        omega (arith, none)
    | inl within ↦ elim (cases_Bool (is_leaf a.rows h)) [
      | inl leaf ↦ less h within leaf
      | inr inner ↦
          let none : demand_of a.rows h ≡ 0 = va.inner_idle h within inner in
          omega (arith, none)
    ]
  ];
}

-- The demand of a leaf by its flag.
module _ (groups : Groups) (flag : ℕ → Bool) (l : ℕ) (below : l < length groups.rows) where
  pub asked_most : is_leaf groups.rows l ≡ true → flag l ≡ true
      → demand_of (asking groups (λ g. demand_where groups.rows (flag g) g)).rows l ≡ MAX_DEMAND
  asked_most leaf most =
      demand_at groups (λ g. demand_where groups.rows (flag g) g) l below ∙ rw (most, leaf) refl

  pub asked_own : flag l ≡ false
      → demand_of (asking groups (λ g. demand_where groups.rows (flag g) g)).rows l
      ≡ demand_of groups.rows l
  asked_own own =
      demand_at groups (λ g. demand_where groups.rows (flag g) g) l below ∙ rw own refl

-- The limit of a leaf: which of the two it is, and what is below it.
pub leaf_cases : (row : Row) (hungry : Bool) (floor amount : ℕ)
    → (leaf_limit row hungry floor amount ≡ max floor amount)
    × ((hungry ≡ true) ⊎ (amount < row.demand))
    ⊎ (leaf_limit row hungry floor amount ≡ max floor (headroom row)) × (hungry ≡ false)
    × (row.demand ≤ amount)
leaf_cases row hungry floor amount = elim (cases_Bool hungry) [
  | inl yes' ↦ inl (rw yes' refl, inl yes')
  | inr no' ↦ elim (cases_lt amount row.demand) [
    | inl less ↦ inl (rw (no', lt-ltb amount row.demand less) refl, inr less)
    | inr more ↦ inr (rw (no', le-ltb amount row.demand more) refl, no', more)
  ]
]

pub floor_le : (row : Row) (hungry : Bool) (floor amount : ℕ)
    → floor ≤ leaf_limit row hungry floor amount
floor_le row hungry floor amount = elim (leaf_cases row hungry floor amount) [
  | inl held ↦ omega (arith, held.0)
  | inr free ↦ omega (arith, free.0)
]

headroom_le : (row : Row) (own : ℕ) → row.limit ≡ Some own → headroom row ≤ own
headroom_le row own e = rw e (omega arith)

headroom_room : (row : Row) → headroom row ≤ with_eighth row.demand
headroom_room row = (elim row.limit as (λ o. row.limit ≡ o
    → headroom row ≤ with_eighth row.demand) [
      | None ↦ λ e. rw e (omega arith)
      | Some own ↦ λ e. rw e (omega arith)
    ]) refl

headroom_ge : (row : Row) (n : ℕ) → n ≤ row.demand
    → ((own : ℕ) → row.limit ≡ Some own → n ≤ own) → n ≤ headroom row
headroom_ge row n less within = (elim row.limit as (λ o. row.limit ≡ o → n ≤ headroom row) [
  | None ↦ λ e. rw e (omega (arith, less))
  | Some own ↦ λ e. let high : n ≤ own = within own e in rw e (omega (arith, less, high))
]) refl

own_le : (row : Row) (hungry : Bool) (floor amount own : ℕ) → row.limit ≡ Some own
    → floor ≤ own → amount ≤ own → leaf_limit row hungry floor amount ≤ own
own_le row hungry floor amount own e low high = elim (leaf_cases row hungry floor amount) [
  | inl held ↦ omega (arith, held.0, low, high)
  | inr free ↦ omega (arith, free.0, low, headroom_le row own e)
]

-- The limit of a leaf stands in its row of the limits.
limit_is : (used : Groups) (hungry : List Bool) (demands amounts : List ℕ)
    (limits : List (Option ℕ)) (round : IsRound used hungry demands amounts limits) (l : ℕ)
    → l < length used.rows → is_leaf used.rows l ≡ true
    → limit_at limits l ≡ (if not round.calm
    then Some (leaf_limit (row_of used.rows l) (is_hungry hungry l) (get_or round.floors l 0)
    (get_or amounts l 0)) else own_limit used.rows l)
limit_is used hungry demands amounts limits round l below leaf =
    ap (λ (xs : List (Option ℕ)). get_or xs l None) round.limits_are
    ∙ get_or-map-range_with_len (round_limit used round.calm hungry round.floors amounts) 0
    (length used.rows) l l None below (omega arith)
    ∙ rw leaf refl

pub limit_found : (used : Groups) (hungry : List Bool) (demands amounts : List ℕ)
    (limits : List (Option ℕ)) (round : IsRound used hungry demands amounts limits) (l : ℕ)
    → l < length used.rows → is_leaf used.rows l ≡ true → round.calm ≡ false
    → limit_at limits l ≡ Some (leaf_limit (row_of used.rows l) (is_hungry hungry l)
    (get_or round.floors l 0) (get_or amounts l 0))
limit_found used hungry demands amounts limits round l below leaf busy =
    limit_is used hungry demands amounts limits round l below leaf ∙ rw busy refl

pub limit_own : (used : Groups) (hungry : List Bool) (demands amounts : List ℕ)
    (limits : List (Option ℕ)) (round : IsRound used hungry demands amounts limits) (l : ℕ)
    → l < length used.rows → is_leaf used.rows l ≡ true → round.calm ≡ true
    → limit_at limits l ≡ own_limit used.rows l
limit_own used hungry demands amounts limits round l below leaf calm =
    limit_is used hungry demands amounts limits round l below leaf ∙ rw calm refl

-- A calm round holds nobody.
pub nobody_held : CalmHoldsNobody
nobody_held used hungry demands amounts limits l round calm below leaf =
    limit_own used hungry demands amounts limits round l below leaf (round.calm_is.1 calm)

own_limit_is : (groups : Groups) → IsInstance groups → (g own : ℕ)
    → own_limit groups.rows g ≡ Some own → limit_of groups g ≡ Some own
own_limit_is groups valid zero own e =
    absurd (let clash : None ≡ Some own = sym valid.root_unlimited ∙ e in cc)
own_limit_is groups valid (suc g) own e = e

-- Neither the floor of a leaf nor its amount is above its own limit.
module _ (used : Groups) (hungry : List Bool) (demands amounts : List ℕ)
    (limits : List (Option ℕ)) (valid : IsInstance used)
    (round : IsRound used hungry demands amounts limits) (l own : ℕ) (below : l < length used.rows)
    (e : own_limit used.rows l ≡ Some own) where
  pub floor_own : get_or round.floors l 0 ≤ own
  floor_own =
      within_limit (everyone used) (everyone-IsInstance used valid) round.floors round.floors_are l
      own (omega (arith, below, as_many used (λ g. demand_where used.rows true g)))
      (asking_limits used (λ g. demand_where used.rows true g) l ∙ own_limit_is used valid l own e)

  amount_own : get_or amounts l 0 ≤ own
  amount_own =
      within_limit (round_of used hungry) (round-IsInstance used valid hungry) amounts
      round.amounts_are l own
      (omega (arith, below, as_many used (λ g. demand_where used.rows (is_hungry hungry g) g)))
      (asking_limits used (λ g. demand_where used.rows (is_hungry hungry g) g) l
      ∙ own_limit_is used valid l own e)

pub none_above : NoneAboveItsLimit
none_above used hungry demands amounts limits l own valid round below leaf e =
    elim (cases_Bool round.calm) [
      | inl calm ↦ (
        own,
        limit_own used hungry demands amounts limits round l below leaf calm ∙ e,
        omega arith,
      )
      | inr busy ↦ (
        leaf_limit (row_of used.rows l) (is_hungry hungry l) (get_or round.floors l 0)
            (get_or amounts l 0),
        limit_found used hungry demands amounts limits round l below leaf busy,
        own_le (row_of used.rows l) (is_hungry hungry l) (get_or round.floors l 0)
            (get_or amounts l 0) own e
            (floor_own used hungry demands amounts limits valid round l own below e)
            (amount_own used hungry demands amounts limits valid round l own below e),
      )
    ]

admits : (wants : Groups) (limits : List (Option ℕ)) (l limit : ℕ)
    → is_leaf wants.rows l ≡ true → limit_at limits l ≡ Some limit
    → admitted_at wants limits l ≡ min (demand_of wants.rows l) limit
admits wants limits l limit leaf found = rw (leaf, found) refl

-- A round beside what it asked for, whatever was read.
module _ (used : Groups) (hungry : List Bool) (demands amounts : List ℕ)
    (limits : List (Option ℕ)) (vu : IsInstance used)
    (round : IsRound used hungry demands amounts limits) (l : ℕ) (below : l < length used.rows)
    (leaf : is_leaf used.rows l ≡ true) where
  v_asked : IsInstance (round_of used hungry)
  v_asked = round-IsInstance used vu hungry

  v_full : IsInstance (everyone used)
  v_full = everyone-IsInstance used vu

  asked_same : IsSameButDemands used (round_of used hungry)
  asked_same = same_asking used (λ g. demand_where used.rows (is_hungry hungry g) g)

  full_same : IsSameButDemands used (everyone used)
  full_same = same_asking used (λ g. demand_where used.rows true g)

  full_most : (h : ℕ) → h < length used.rows → is_leaf used.rows h ≡ true
      → demand_of (everyone used).rows h ≡ MAX_DEMAND
  full_most h h_in leaf_h = asked_most used (λ _. true) h h_in leaf_h refl

  asked_leaf : is_leaf (round_of used hungry).rows l ≡ true
  asked_leaf = leaf_same used.rows (round_of used hungry).rows asked_same.tree l ∙ leaf

  asked_below : l < length (round_of used hungry).rows
  asked_below = omega (arith, below, asked_same.tree.as_many)

  full_busier : IsBusier (round_of used hungry) (everyone used)
  full_busier = busier_by (round_of used hungry) (everyone used) v_asked
      (joined (round_of used hungry) used (everyone used)
      (turned used (round_of used hungry) asked_same) full_same) (λ h h_in leaf_h.
      let low : demand_of (round_of used hungry).rows h ≤ MAX_DEMAND = v_asked.demands h h_in in
      let high : demand_of (everyone used).rows h ≡ MAX_DEMAND =
      full_most h (omega (arith, h_in, asked_same.tree.as_many))
      (sym (leaf_same used.rows (round_of used hungry).rows asked_same.tree h) ∙ leaf_h) in
      omega (arith, low, high))

  -- The floor is no more than the plan, as far as it is asked for.
  floor_planned : min (demand_of (round_of used hungry).rows l) (get_or round.floors l 0)
      ≤ get_or amounts l 0
  floor_planned =
      serve_no_more (round_of used hungry) (everyone used) l amounts round.floors v_asked v_full
      full_busier round.amounts_are round.floors_are asked_below asked_leaf

  planned_asked : get_or amounts l 0 ≤ demand_of (round_of used hungry).rows l
  planned_asked =
      within_demand (round_of used hungry) v_asked amounts round.amounts_are l asked_below asked_leaf

  floor_most : get_or round.floors l 0 ≤ MAX_DEMAND
  floor_most =
      let fits : get_or round.floors l 0 ≤ demand_of (everyone used).rows l =
      within_demand (everyone used) v_full round.floors round.floors_are l
      (omega (arith, below, full_same.tree.as_many))
      (leaf_same used.rows (everyone used).rows full_same.tree l ∙ leaf) in
      omega (arith, fits, full_most l below leaf)

  -- What a limit admits of what was asked.
  asked_admits : round.calm ≡ false → admitted_at (round_of used hungry) limits l
      ≡ min (demand_of (round_of used hungry).rows l)
      (leaf_limit (row_of used.rows l) (is_hungry hungry l) (get_or round.floors l 0)
      (get_or amounts l 0))
  asked_admits busy =
      admits (round_of used hungry) limits l
      (leaf_limit (row_of used.rows l) (is_hungry hungry l) (get_or round.floors l 0)
      (get_or amounts l 0)) asked_leaf
      (limit_found used hungry demands amounts limits round l below leaf busy)

  asked_busy : round.calm ≡ false
      → admitted_at (round_of used hungry) limits l ≡ get_or amounts l 0
  asked_busy busy = elim (leaf_cases (row_of used.rows l) (is_hungry hungry l)
      (get_or round.floors l 0) (get_or amounts l 0)) [
        | inl held ↦ omega (arith, asked_admits busy, held.0, floor_planned, planned_asked)
        | inr free ↦
            let own : demand_of (round_of used hungry).rows l ≡ demand_of used.rows l =
            asked_own used (is_hungry hungry) l below free.1 in
            let more : demand_of used.rows l ≤ get_or amounts l 0 = free.2 in
            let room : get_or amounts l 0 ≤ headroom (row_of used.rows l) =
            headroom_ge (row_of used.rows l) (get_or amounts l 0)
            (omega (arith, own, planned_asked))
            (λ limit e. amount_own used hungry demands amounts limits vu round l limit below e) in
            omega (arith, asked_admits busy, free.0, room, own, more, planned_asked)
      ]

  -- In a calm round the plan gives what is asked for within the own limit.
  calm_given : (o : Option ℕ) → own_limit used.rows l ≡ o → round.calm ≡ true
      → option_map_or (min (demand_of (round_of used hungry).rows l)) o
      (demand_of (round_of used hungry).rows l) ≤ get_or amounts l 0
  calm_given o e calm =
      let kept : own_limit (round_of used hungry).rows l ≡ o =
      (asking_alike used (λ g. demand_where used.rows (is_hungry hungry g) g)).limits l below
      ∙ e in
      let given : asked_within (row_of (round_of used hungry).rows l) ≤ get_or amounts l 0 =
      round.calm_is.0 calm l asked_below asked_leaf in
      rw kept at given

  asked_calm : round.calm ≡ true
      → admitted_at (round_of used hungry) limits l ≡ get_or amounts l 0
  asked_calm calm = (elim (own_limit used.rows l) as (λ o. own_limit used.rows l ≡ o
      → admitted_at (round_of used hungry) limits l ≡ get_or amounts l 0) [
        | None ↦ λ e.
            let free : limit_at limits l ≡ None =
            limit_own used hungry demands amounts limits round l below leaf calm ∙ e in
            let whole : admitted_at (round_of used hungry) limits l
            ≡ demand_of (round_of used hungry).rows l = rw (asked_leaf, free) refl in
            let given : demand_of (round_of used hungry).rows l ≤ get_or amounts l 0 =
            calm_given None e calm in
            omega (arith, whole, given, planned_asked)
        | Some own ↦ λ e.
            let part : admitted_at (round_of used hungry) limits l
            ≡ min (demand_of (round_of used hungry).rows l) own =
            admits (round_of used hungry) limits l own asked_leaf
            (limit_own used hungry demands amounts limits round l below leaf calm ∙ e) in
            let given : min (demand_of (round_of used hungry).rows l) own ≤ get_or amounts l 0 =
            calm_given (Some own) e calm in
            omega (
              arith,
              part,
              given,
              planned_asked,
              amount_own used hungry demands amounts limits vu round l own below e,
            )
      ]) refl

  asked_planned : admitted_at (round_of used hungry) limits l ≡ get_or amounts l 0
  asked_planned = elim (cases_Bool round.calm) [
    | inl calm ↦ asked_calm calm
    | inr busy ↦ asked_busy busy
  ]

  asked_hungry : is_hungry hungry l ≡ true
      → leaf_limit (row_of used.rows l) (is_hungry hungry l) (get_or round.floors l 0)
      (get_or amounts l 0) ≡ get_or amounts l 0
  asked_hungry yes' = elim (leaf_cases (row_of used.rows l) (is_hungry hungry l)
      (get_or round.floors l 0) (get_or amounts l 0)) [
        | inl held ↦
            let most : demand_of (round_of used hungry).rows l ≡ MAX_DEMAND =
            asked_most used (is_hungry hungry) l below leaf yes' in
            omega (arith, held.0, floor_planned, floor_most, most)
        | inr free ↦ absurd (both_ways _ free.1 yes')
      ]

  -- A hungry leaf has its own limit in a calm round, since no host has all that it asks for.
  calm_hungry : is_hungry hungry l ≡ true → round.calm ≡ true
      → own_limit used.rows l ≡ Some (get_or amounts l 0)
  calm_hungry yes' calm =
      let most : demand_of (round_of used hungry).rows l ≡ MAX_DEMAND =
      asked_most used (is_hungry hungry) l below leaf yes' in
      let small : get_or amounts l 0 ≤ MAX_CAPACITY =
      amount_small (round_of used hungry) v_asked amounts round.amounts_are l asked_below in
      (elim (own_limit used.rows l) as (λ o. own_limit used.rows l ≡ o
      → own_limit used.rows l ≡ Some (get_or amounts l 0)) [
        | None ↦ λ e.
            let given : demand_of (round_of used hungry).rows l ≤ get_or amounts l 0 =
            calm_given None e calm in
            absurd (omega (arith, most, small, given))
        | Some own ↦ λ e.
            let given : min (demand_of (round_of used hungry).rows l) own ≤ get_or amounts l 0 =
            calm_given (Some own) e calm in
            let same : own ≡ get_or amounts l 0 =
            omega (
              arith,
              most,
              small,
              given,
              amount_own used hungry demands amounts limits vu round l own below e,
            ) in
            e ∙ ap (λ (n : ℕ). Some n) same
      ]) refl

  hungry_limit : is_hungry hungry l ≡ true → limit_at limits l ≡ Some (get_or amounts l 0)
  hungry_limit yes' = elim (cases_Bool round.calm) [
    | inl calm ↦
        limit_own used hungry demands amounts limits round l below leaf calm
        ∙ calm_hungry yes' calm
    | inr busy ↦
        limit_found used hungry demands amounts limits round l below leaf busy
        ∙ ap (λ (n : ℕ). Some n) (asked_hungry yes')
  ]

  asked_other : is_hungry hungry l ≡ false
      → leaf_limit (row_of used.rows l) (is_hungry hungry l) (get_or round.floors l 0)
      (get_or amounts l 0)
      ≤ max (get_or round.floors l 0) (with_eighth (demand_of used.rows l))
  asked_other no' = elim (leaf_cases (row_of used.rows l) (is_hungry hungry l)
      (get_or round.floors l 0) (get_or amounts l 0)) [
        | inl held ↦
            let own : demand_of (round_of used hungry).rows l ≡ demand_of used.rows l =
            asked_own used (is_hungry hungry) l below no' in
            let room : demand_of used.rows l ≤ with_eighth (demand_of used.rows l) =
            omega arith in
            omega (arith, held.0, own, planned_asked, room)
        | inr free ↦
            let room : headroom (row_of used.rows l) ≤ with_eighth (demand_of used.rows l) =
            headroom_room (row_of used.rows l) in
            omega (arith, free.0, room)
      ]

pub admitted_as_planned : AskedIsAdmittedAsPlanned
admitted_as_planned used hungry demands amounts limits l vu round below leaf = record {
  asked = asked_planned used hungry demands amounts limits vu round l below leaf;
  of_hungry = hungry_limit used hungry demands amounts limits vu round l below leaf;
  of_others = λ no' not_calm. elim (cases_Bool round.calm) [
    | inl calm ↦ absurd (not_calm (round.calm_is.0 calm))
    | inr busy ↦ (
      leaf_limit (row_of used.rows l) (is_hungry hungry l) (get_or round.floors l 0)
          (get_or amounts l 0),
      limit_found used hungry demands amounts limits round l below leaf busy,
      asked_other used hungry demands amounts limits vu round l below leaf no',
    )
  ];
}

-- After a true reading of the wants.
module _ (used wants : Groups) (hungry : List Bool) (demands amounts : List ℕ)
    (limits : List (Option ℕ)) (planned : List ℕ) (vw : IsInstance wants)
    (reading : IsTrueReading wants used hungry)
    (round : IsRound used hungry demands amounts limits) (is_plan : IsPlan wants planned) where
  in_used : (l : ℕ) → l < length wants.rows → l < length used.rows
  in_used l below = omega (arith, below, reading.same.tree.as_many)

  leaf_used : (l : ℕ) → is_leaf wants.rows l ≡ true → is_leaf used.rows l ≡ true
  leaf_used l leaf = leaf_same wants.rows used.rows reading.same.tree l ∙ leaf

  -- A leaf that is not hungry used all that it wants.
  pub not_hungry : (l : ℕ) → l < length wants.rows → is_leaf wants.rows l ≡ true
      → is_hungry hungry l ≡ false → demand_of used.rows l ≡ demand_of wants.rows l
  not_hungry l below leaf no' =
      elim (cases_lt (demand_of used.rows l) (demand_of wants.rows l)) [
        | inl less ↦ absurd
            (both_ways _ (sym (reading.flags l below leaf) ∙ no')
            (lt-ltb (demand_of used.rows l) (demand_of wants.rows l) less))
        | inr more ↦ omega (arith, more, reading.no_more l below leaf)
      ]

  v_round : IsInstance (round_of used hungry)
  v_round = round-IsInstance used reading.valid hungry

  v_floors : IsInstance (everyone used)
  v_floors = everyone-IsInstance used reading.valid

  pub same_round : IsSameButDemands wants (round_of used hungry)
  same_round = joined wants used (round_of used hungry) reading.same
      (same_asking used (λ g. demand_where used.rows (is_hungry hungry g) g))

  same_all : IsSameButDemands wants (everyone used)
  same_all = joined wants used (everyone used) reading.same
      (same_asking used (λ g. demand_where used.rows true g))

  -- What a leaf asks for in the round.
  pub asks_own : (l : ℕ) → l < length wants.rows → is_leaf wants.rows l ≡ true
      → is_hungry hungry l ≡ false
      → demand_of (round_of used hungry).rows l ≡ demand_of wants.rows l
  asks_own l below leaf no' =
      asked_own used (is_hungry hungry) l (in_used l below) no' ∙ not_hungry l below leaf no'

  pub asks_most : (l : ℕ) → l < length wants.rows → is_leaf wants.rows l ≡ true
      → is_hungry hungry l ≡ true → demand_of (round_of used hungry).rows l ≡ MAX_DEMAND
  asks_most l below leaf yes' =
      asked_most used (is_hungry hungry) l (in_used l below) (leaf_used l leaf) yes'

  pub asks_no_less : (l : ℕ) → l < length wants.rows → is_leaf wants.rows l ≡ true
      → demand_of wants.rows l ≤ demand_of (round_of used hungry).rows l
  asks_no_less l below leaf = elim (cases_Bool (is_hungry hungry l)) [
    | inl yes' ↦
        let high : demand_of wants.rows l ≤ MAX_DEMAND = vw.demands l below in
        omega (arith, high, asks_most l below leaf yes')
    | inr no' ↦ omega (arith, asks_own l below leaf no')
  ]

  busier_round : IsBusier wants (round_of used hungry)
  busier_round = busier_by wants (round_of used hungry) vw same_round asks_no_less

  busier_all : IsBusier wants (everyone used)
  busier_all = busier_by wants (everyone used) vw same_all (λ l below leaf.
      let high : demand_of wants.rows l ≤ MAX_DEMAND = vw.demands l below in
      omega (
        arith,
        high,
        asked_most used (λ _. true) l (in_used l below) (leaf_used l leaf) refl,
      ))

  floor_less : (l : ℕ) → l < length wants.rows → is_leaf wants.rows l ≡ true
      → min (demand_of wants.rows l) (get_or round.floors l 0) ≤ get_or planned l 0
  floor_less l below leaf =
      serve_no_more wants (everyone used) l planned round.floors vw v_floors busier_all is_plan
      round.floors_are below leaf

  pub amount_less : (l : ℕ) → l < length wants.rows → is_leaf wants.rows l ≡ true
      → min (demand_of wants.rows l) (get_or amounts l 0) ≤ get_or planned l 0
  amount_less l below leaf =
      serve_no_more wants (round_of used hungry) l planned amounts vw v_round busier_round is_plan
      round.amounts_are below leaf

  admitted_busy : (l : ℕ) → l < length wants.rows → is_leaf wants.rows l ≡ true
      → round.calm ≡ false → admitted_at wants limits l ≡ min (demand_of wants.rows l)
      (leaf_limit (row_of used.rows l) (is_hungry hungry l) (get_or round.floors l 0)
      (get_or amounts l 0))
  admitted_busy l below leaf busy =
      admits wants limits l
      (leaf_limit (row_of used.rows l) (is_hungry hungry l) (get_or round.floors l 0)
      (get_or amounts l 0)) leaf
      (limit_found used hungry demands amounts limits round l (in_used l below) (leaf_used l leaf)
      busy)

  -- In a calm round a leaf is admitted as a limit of its amount would.
  admitted_calm : (l : ℕ) → l < length wants.rows → is_leaf wants.rows l ≡ true
      → round.calm ≡ true → admitted_at wants limits l
      ≡ min (demand_of wants.rows l) (max (get_or round.floors l 0) (get_or amounts l 0))
  admitted_calm l below leaf calm =
      let here : l < length used.rows = in_used l below in
      let is : is_leaf used.rows l ≡ true = leaf_used l leaf in
      let no_less : demand_of wants.rows l ≤ demand_of (round_of used hungry).rows l =
      asks_no_less l below leaf in
      (elim (own_limit used.rows l) as (λ o. own_limit used.rows l ≡ o
      → admitted_at wants limits l
      ≡ min (demand_of wants.rows l) (max (get_or round.floors l 0) (get_or amounts l 0))) [
        | None ↦ λ e.
            let free : limit_at limits l ≡ None =
            limit_own used hungry demands amounts limits round l here is calm ∙ e in
            let whole : admitted_at wants limits l ≡ demand_of wants.rows l =
            rw (leaf, free) refl in
            let given : demand_of (round_of used hungry).rows l ≤ get_or amounts l 0 =
            calm_given used hungry demands amounts limits reading.valid round l here is None e calm
            in
            omega (arith, whole, given, no_less)
        | Some own ↦ λ e.
            let part : admitted_at wants limits l ≡ min (demand_of wants.rows l) own =
            admits wants limits l own leaf
            (limit_own used hungry demands amounts limits round l here is calm ∙ e) in
            let given : min (demand_of (round_of used hungry).rows l) own ≤ get_or amounts l 0 =
            calm_given used hungry demands amounts limits reading.valid round l here is (Some own) e
            calm in
            omega (
              arith,
              part,
              given,
              no_less,
              floor_own used hungry demands amounts limits reading.valid round l own here e,
              amount_own used hungry demands amounts limits reading.valid round l own here e,
            )
      ]) refl

  cases_at : (l : ℕ) → l < length wants.rows → is_leaf wants.rows l ≡ true
      → (admitted_at wants limits l
      ≡ min (demand_of wants.rows l) (max (get_or round.floors l 0) (get_or amounts l 0)))
      ⊎ (admitted_at wants limits l
      ≡ min (demand_of wants.rows l)
      (max (get_or round.floors l 0) (headroom (row_of used.rows l))))
      × (demand_of used.rows l ≡ demand_of wants.rows l)
      × (demand_of wants.rows l ≤ get_or amounts l 0)
  cases_at l below leaf = elim (cases_Bool round.calm) [
    | inl calm ↦ inl (admitted_calm l below leaf calm)
    | inr busy ↦
        let is = admitted_busy l below leaf busy in
        elim (leaf_cases (row_of used.rows l) (is_hungry hungry l) (get_or round.floors l 0)
        (get_or amounts l 0)) [
          | inl held ↦ inl (is ∙ ap (λ (n : ℕ). min (demand_of wants.rows l) n) held.0)
          | inr free ↦
              let all : demand_of used.rows l ≡ demand_of wants.rows l =
              not_hungry l below leaf free.1 in
              let more : demand_of used.rows l ≤ get_or amounts l 0 = free.2 in
              inr (
                is ∙ ap (λ (n : ℕ). min (demand_of wants.rows l) n) free.0,
                all,
                omega (arith, all, more),
              )
        ]
  ]

  -- No leaf is admitted above its plan.
  pub admitted_le : (l : ℕ) → l < length wants.rows → is_leaf wants.rows l ≡ true
      → admitted_at wants limits l ≤ get_or planned l 0
  admitted_le l below leaf = elim (cases_at l below leaf) [
    | inl held ↦ omega (arith, held, floor_less l below leaf, amount_less l below leaf)
    | inr free ↦ omega (arith, free.0, free.2, amount_less l below leaf)
  ]

  -- A leaf whose want the round plans is admitted whole.
  pub whole_at : (l : ℕ) → l < length wants.rows → is_leaf wants.rows l ≡ true
      → demand_of wants.rows l ≤ get_or amounts l 0
      → admitted_at wants limits l ≡ demand_of wants.rows l
  whole_at l below leaf enough = elim (cases_at l below leaf) [
    | inl held ↦ omega (arith, held, enough)
    | inr free ↦
        let room : demand_of wants.rows l ≤ headroom (row_of used.rows l) =
        headroom_ge (row_of used.rows l) (demand_of wants.rows l)
        (let all : demand_of used.rows l ≡ demand_of wants.rows l = free.1 in omega (arith, all))
        (λ own e.
        let fits : get_or amounts l 0 ≤ own =
        amount_own used hungry demands amounts limits reading.valid round l own (in_used l below) e
        in
        omega (arith, fits, enough)) in
        omega (arith, free.0, room)
  ]

  -- A hungry leaf is admitted as far as the round plans it.
  pub not_above : (l : ℕ) → l < length wants.rows → is_leaf wants.rows l ≡ true
      → is_hungry hungry l ≡ true
      → min (demand_of wants.rows l) (get_or amounts l 0) ≤ admitted_at wants limits l
  not_above l below leaf yes' = elim (cases_at l below leaf) [
    | inl held ↦ omega (arith, held)
    | inr free ↦ absurd
        (both_ways _
        (reading.flags l below leaf
        ∙ le-ltb (demand_of used.rows l) (demand_of wants.rows l)
        (let all : demand_of used.rows l ≡ demand_of wants.rows l = free.1 in omega (arith, all)))
        yes')
  ]

  -- A round that plans no leaf more than it wants has the plan of the wants, and admits it.
  module _ (fits : (l : ℕ) → l < length wants.rows → is_leaf wants.rows l ≡ true
      → get_or amounts l 0 ≤ demand_of wants.rows l) where
    pub amounts_planned : (h : ℕ) → h < length wants.rows → get_or amounts h 0 ≡ get_or planned h 0
    amounts_planned h below =
        unused_changes wants (round_of used hungry) planned amounts vw v_round busier_round is_plan
        round.amounts_are fits h below

    pub admitted_planned : (l : ℕ) → l < length wants.rows → is_leaf wants.rows l ≡ true
        → admitted_at wants limits l ≡ get_or planned l 0
    admitted_planned l below leaf =
        let same : get_or amounts l 0 ≡ get_or planned l 0 = amounts_planned l below in
        let most : get_or planned l 0 ≤ demand_of wants.rows l =
        within_demand wants vw planned is_plan l below leaf in
        elim (cases_lt (get_or planned l 0) (demand_of wants.rows l)) [
          | inr full ↦
              let whole : admitted_at wants limits l ≡ demand_of wants.rows l =
              whole_at l below leaf (omega (arith, same, full)) in
              omega (arith, whole, most, full)
          | inl less ↦ elim (cases_at l below leaf) [
            | inl held ↦
                omega (arith, held, floor_less l below leaf, same, less)
            | inr free ↦ absurd (omega (arith, free.2, same, less))
          ]
        ]

  planned_total : (g : ℕ) → g < length wants.rows
      → get_or planned g 0 ≡ total wants.rows is_plan.allocation g
  planned_total g below =
      ap (λ (xs : List ℕ). get_or xs g 0) is_plan.amounts_are
      ∙ get_or-map-range_with_len (total wants.rows is_plan.allocation) 0 (length wants.rows) g g 0
      below (omega arith)

  admitted_get : (g : ℕ) → g < length wants.rows
      → get_or (admitted wants limits) g 0 ≡ admitted_at wants limits g
  admitted_get g below =
      get_or-map-range_with_len (admitted_at wants limits) 0 (length wants.rows) g g 0 below
      (omega arith)

  totals_le : (g : ℕ)
      → total wants.rows (admitted wants limits) g ≤ total wants.rows is_plan.allocation g
  totals_le g =
      totals_less wants.rows (admitted wants limits) is_plan.allocation g (λ l below leaf.
      omega (
        arith,
        admitted_get l below,
        admitted_le l below leaf,
        planned_total l below,
        leaf_total wants.rows vw.tree is_plan.allocation l below leaf,
      ))

  pub within_plan : IsWithinPlan wants limits planned
  within_plan = record {
    totals = λ g below. omega (arith, totals_le g, planned_total g below);
    fits = record {
      allots = record {
        one_each = length-map-range_with_len (admitted_at wants limits) 0 (length wants.rows);
        at_leaves = λ g below inner. admitted_get g below ∙ rw inner refl;
      };
      demands = λ l below leaf.
          omega (
            arith,
            admitted_get l below,
            admitted_le l below leaf,
            within_demand wants vw planned is_plan l below leaf,
          );
      limits = λ g limit below e.
          let kept : total wants.rows is_plan.allocation g ≤ limit =
          is_plan.best.within.limits g limit below e in
          omega (arith, totals_le g, kept);
    };
  }

pub admit_the_plan : LimitsAdmitThePlan
admit_the_plan used wants hungry demands amounts limits planned vw reading round is_plan =
    within_plan used wants hungry demands amounts limits planned vw reading round is_plan
