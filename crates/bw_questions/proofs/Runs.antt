-- Rounds of a host whose wants stay: the plan is reached, and stays.
use Rattle.std.proofs.Common.{◌≡◌, ℕ, zero, suc, ◌+◌, ◌<◌, ◌≤◌, List, Bool, Option, true, false, length}
use Rattle.std.proofs.Common.{get_or, refl, ap, sym, ◌∙◌, arith, inl, inr}
use Rattle.std.specs.Prelude.{min, not, nat_le}
use Rattle.std.proofs.lemmas.Bool.{cases_lt, cases_Bool, both_ways, le-ltb, le-leb, leb-true, ltb-true}
use Rattle.std.proofs.lemmas.Bool.{and_parts}
use Rattle.bw_model.specs.declared.limits.TheConstants.{MAX_DEMAND}
use Rattle.bw_model.specs.Groups.{Groups, IsInstance, demand_of, is_leaf}
use Rattle.bw_model.specs.Plan.{IsPlan}
use Rattle.bw_plan.specs.Laws.{ThereIsOnePlan}
use Rattle.bw_questions.specs.changes.Asked.{IsBusier}
use Rattle.bw_questions.proofs.changes.AskedLaw.{serve_no_more, unused_changes}
use Rattle.bw_questions.proofs.changes.Trees.{leaf_same}
use Rattle.bw_questions.specs.HeldRule.{asking, demand_where, is_hungry, round_of}
use Rattle.bw_questions.specs.Reading.{IsSameButDemands, IsTrueReading, IsServed, ReadsNoLess}
use Rattle.bw_questions.specs.Reading.{admitted_at}
use Rattle.bw_questions.specs.Rounds.{AreLimits, IsRun, ServesThePlan, is_whole, whole_count}
use Rattle.bw_questions.specs.Rounds.{WantsGiveThePlan, PlanStays, NothingElseStays, PlanIsReached}
use Rattle.bw_questions.proofs.AskingRows.{where-IsInstance, round-IsInstance}
use Rattle.bw_questions.proofs.Counts.{count, count_is, count_le, count_more, missing, filled}
use Rattle.bw_questions.proofs.Leaves.{within_demand}
use Rattle.bw_questions.proofs.Rounds.{same_asking, turned, joined, busier_by, asked_most, asked_own}
use Rattle.bw_questions.proofs.Rounds.{asks_own, asks_no_less, same_round, amount_less, whole_at}
use Rattle.bw_questions.proofs.Rounds.{admitted_planned, within_plan, not_above}

-- A leaf that used all that it wants is not hungry.
sated : (wants used : Groups) (hungry : List Bool) → IsTrueReading wants used hungry → (l : ℕ)
    → l < length wants.rows → is_leaf wants.rows l ≡ true
    → demand_of used.rows l ≡ demand_of wants.rows l → is_hungry hungry l ≡ false
sated wants used hungry reading l below leaf all =
    reading.flags l below leaf
    ∙ le-ltb (demand_of used.rows l) (demand_of wants.rows l) (omega (arith, all))

-- A leaf that a plan serves whole.
whole_parts : (wants : Groups) (xs : List ℕ) (l : ℕ) → is_whole wants xs l ≡ true
    → (is_leaf wants.rows l ≡ true) × (demand_of wants.rows l ≤ get_or xs l 0)
whole_parts wants xs l is =
    let parts : (is_leaf wants.rows l ≡ true)
    × (nat_le (demand_of wants.rows l) (get_or xs l 0) ≡ true) =
    and_parts (is_leaf wants.rows l) (nat_le (demand_of wants.rows l) (get_or xs l 0)) is in
    (parts.0, leb-true (demand_of wants.rows l) (get_or xs l 0) parts.1)

whole_from : (wants : Groups) (xs : List ℕ) (l : ℕ) → is_leaf wants.rows l ≡ true
    → demand_of wants.rows l ≤ get_or xs l 0 → is_whole wants xs l ≡ true
whole_from wants xs l leaf enough =
    rw (leaf, le-leb (demand_of wants.rows l) (get_or xs l 0) enough) refl

-- One round, and what the host serves in it.
module _ (wants used : Groups) (hungry : List Bool) (limits : List (Option ℕ)) (next : ℕ → ℕ)
    (planned : List ℕ) (vw : IsInstance wants) (is_plan : IsPlan wants planned)
    (reading : IsTrueReading wants used hungry) (are : AreLimits used hungry limits)
    (serves : IsServed wants limits next) where
  v_round : IsInstance (round_of used hungry)
  v_round = round-IsInstance used reading.valid hungry

  amounts_fit : (l : ℕ) → l < length wants.rows → is_leaf wants.rows l ≡ true
      → get_or are.1 l 0 ≤ demand_of (round_of used hungry).rows l
  amounts_fit l below leaf =
      let same : IsSameButDemands wants (round_of used hungry) =
      same_round used wants hungry are.0 are.1 limits planned vw reading are.2 is_plan in
      within_demand (round_of used hungry) v_round are.1 are.2.amounts_are l
      (omega (arith, below, same.tree.as_many))
      (leaf_same wants.rows (round_of used hungry).rows same.tree l ∙ leaf)

  next_is : (l : ℕ) → l < length wants.rows → is_leaf wants.rows l ≡ true
      → next l ≡ admitted_at wants limits l
  next_is l below leaf =
      serves.whole
      (within_plan used wants hungry are.0 are.1 limits planned vw reading are.2 is_plan).fits l
      below leaf

  -- Where the leaves that the plan serves whole are not hungry, the plan is served next.
  serves_plan : ((l : ℕ) → l < length wants.rows → is_whole wants planned l ≡ true
      → is_hungry hungry l ≡ false) → ServesThePlan wants planned next
  serves_plan full l below leaf =
      next_is l below leaf
      ∙ admitted_planned used wants hungry are.0 are.1 limits planned vw reading are.2 is_plan fits
      l below leaf
    where
      fits : (h : ℕ) → h < length wants.rows → is_leaf wants.rows h ≡ true
          → get_or are.1 h 0 ≤ demand_of wants.rows h
      fits h h_in leaf_h = elim (cases_lt (get_or planned h 0) (demand_of wants.rows h)) [
        | inl less ↦
            omega (
              arith,
              less,
              amount_less used wants hungry are.0 are.1 limits planned vw reading are.2 is_plan h
                  h_in leaf_h,
            )
        | inr enough ↦
            omega (
              arith,
              amounts_fit h h_in leaf_h,
              asks_own used wants hungry are.0 are.1 limits planned vw reading are.2 is_plan h h_in
                  leaf_h (full h h_in (whole_from wants planned h leaf_h enough)),
            )
      ]

  -- A leaf whose want the round plans is not hungry next.
  pub next_sated : (after : Groups) (after_hungry : List Bool)
      → IsTrueReading wants after after_hungry → ReadsNoLess wants next after → (l : ℕ)
      → l < length wants.rows → is_leaf wants.rows l ≡ true
      → demand_of wants.rows l ≤ get_or are.1 l 0 → is_hungry after_hungry l ≡ false
  next_sated after after_hungry true_after no_less l below leaf enough =
      let all : admitted_at wants limits l ≡ demand_of wants.rows l =
      whole_at used wants hungry are.0 are.1 limits planned vw reading are.2 is_plan l below leaf
      enough in
      sated wants after after_hungry true_after l below leaf
      (omega (
        arith,
        next_is l below leaf,
        all,
        no_less l below leaf,
        true_after.no_more l below leaf,
      ))

  all_wanted : ((l : ℕ) → l < length wants.rows → is_leaf wants.rows l ≡ true
      → demand_of used.rows l ≡ demand_of wants.rows l) → ServesThePlan wants planned next
  all_wanted all = serves_plan (λ l below whole.
      let leaf : is_leaf wants.rows l ≡ true = (whole_parts wants planned l whole).0 in
      sated wants used hungry reading l below leaf (all l below leaf))

  module _ (served : ℕ → ℕ) (no_less : ReadsNoLess wants served used) where
    stays : ServesThePlan wants planned served → ServesThePlan wants planned next
    stays serves_it = serves_plan (λ l below whole.
        let parts : (is_leaf wants.rows l ≡ true)
        × (demand_of wants.rows l ≤ get_or planned l 0) =
        whole_parts wants planned l whole in
        sated wants used hungry reading l below parts.0
        (omega (
          arith,
          serves_it l below parts.0,
          parts.1,
          no_less l below parts.0,
          reading.no_more l below parts.0,
        )))

    nothing_else : ((l : ℕ) → l < length wants.rows → is_leaf wants.rows l ≡ true
        → next l ≡ served l) → ServesThePlan wants planned served
    nothing_else same l below leaf =
        sym (same l below leaf) ∙ next_is l below leaf
        ∙ admitted_planned used wants hungry are.0 are.1 limits planned vw reading are.2 is_plan
        fits l below leaf
      where
        fits : (h : ℕ) → h < length wants.rows → is_leaf wants.rows h ≡ true
            → get_or are.1 h 0 ≤ demand_of wants.rows h
        fits h h_in leaf_h = elim (cases_Bool (is_hungry hungry h)) [
          | inr no' ↦
              omega (
                arith,
                amounts_fit h h_in leaf_h,
                asks_own used wants hungry are.0 are.1 limits planned vw reading are.2 is_plan h
                    h_in leaf_h no',
              )
          | inl yes' ↦
              let less : demand_of used.rows h < demand_of wants.rows h =
              ltb-true (demand_of used.rows h) (demand_of wants.rows h)
              (sym (reading.flags h h_in leaf_h) ∙ yes') in
              let below_amount : min (demand_of wants.rows h) (get_or are.1 h 0)
              ≤ admitted_at wants limits h =
              not_above used wants hungry are.0 are.1 limits planned vw reading are.2 is_plan h
              h_in leaf_h yes' in
              omega (
                arith,
                less,
                below_amount,
                next_is h h_in leaf_h,
                same h h_in leaf_h,
                no_less h h_in leaf_h,
              )
        ]

pub wants_give_the_plan : WantsGiveThePlan
wants_give_the_plan wants used hungry limits next planned vw is_plan reading all are serves =
    all_wanted wants used hungry limits next planned vw is_plan reading are serves all

pub plan_stays : PlanStays
plan_stays wants used hungry limits served next planned vw is_plan reading no_less serves_it are
    serves =
    stays wants used hungry limits next planned vw is_plan reading are serves served no_less
    serves_it

pub nothing_else_stays : NothingElseStays
nothing_else_stays wants used hungry limits served next planned vw is_plan reading no_less are
    serves same =
    nothing_else wants used hungry limits next planned vw is_plan reading are serves served no_less
    same

-- Leaves that are known to be served whole, and those that a plan on what is known serves whole.
module _ (wants : Groups) (planned : List ℕ) (vw : IsInstance wants) (is_plan : IsPlan wants planned)
    (plans : ThereIsOnePlan) where
  -- the wants of the leaves that are known, everything at the others
  known : (ℕ → Bool) → Groups
  known T = asking wants (λ g. demand_where wants.rows (not (T g)) g)

  v_known : (T : ℕ → Bool) → IsInstance (known T)
  unfolding known
  v_known T = where-IsInstance wants vw (λ g. not (T g))

  same_known : (T : ℕ → Bool) → IsSameButDemands wants (known T)
  unfolding known
  same_known T = same_asking wants (λ g. demand_where wants.rows (not (T g)) g)

  known_own : (T : ℕ → Bool) (l : ℕ) → l < length wants.rows → T l ≡ true
      → demand_of (known T).rows l ≡ demand_of wants.rows l
  unfolding known
  known_own T l below is = asked_own wants (λ g. not (T g)) l below (rw is refl)

  known_most : (T : ℕ → Bool) (l : ℕ) → l < length wants.rows → is_leaf wants.rows l ≡ true
      → T l ≡ false → demand_of (known T).rows l ≡ MAX_DEMAND
  unfolding known
  known_most T l below leaf is = asked_most wants (λ g. not (T g)) l below leaf (rw is refl)

  plan_known : (ℕ → Bool) → List ℕ
  plan_known T = (plans (known T) (v_known T)).amounts

  plan_known_is : (T : ℕ → Bool) → IsPlan (known T) (plan_known T)
  unfolding plan_known
  plan_known_is T = (plans (known T) (v_known T)).plan

  -- the leaves that the plan on what is known serves whole
  after : (ℕ → Bool) → ℕ → Bool
  after T = is_whole wants (plan_known T)

  IsStable : (ℕ → Bool) → Type 0
  IsStable T = (l : ℕ) → l < length wants.rows → T l ≡ true → after T l ≡ true

  leaf_of : (T : ℕ → Bool) → IsStable T → (l : ℕ) → l < length wants.rows → T l ≡ true
      → is_leaf wants.rows l ≡ true
  unfolding IsStable after
  leaf_of T stable l below is = (whole_parts wants (plan_known T) l (stable l below is)).0

  -- What a group that differs from the wants in demands alone has of them.
  count_in : (b : Groups) → IsSameButDemands wants b → (l : ℕ) → l < length wants.rows
      → l < length b.rows
  count_in b same l below = omega (arith, below, same.tree.as_many)

  leaf_in : (b : Groups) → IsSameButDemands wants b → (l : ℕ) → is_leaf wants.rows l ≡ true
      → is_leaf b.rows l ≡ true
  leaf_in b same l leaf = leaf_same wants.rows b.rows same.tree l ∙ leaf

  -- A leaf whose want a busier plan serves is served whole, where it asks for its want or more.
  passes_on : (a b : Groups) (xs ys : List ℕ) → IsInstance a → IsInstance b → IsPlan a xs
      → IsPlan b ys → IsSameButDemands wants a → IsSameButDemands wants b
      → ((h : ℕ) → h < length wants.rows → is_leaf wants.rows h ≡ true
      → demand_of a.rows h ≤ demand_of b.rows h)
      → (l : ℕ) → l < length wants.rows → demand_of wants.rows l ≤ demand_of a.rows l
      → is_whole wants ys l ≡ true → is_whole wants xs l ≡ true
  passes_on a b xs ys va vb plan_a plan_b same_a same_b less l below asks whole =
      let parts : (is_leaf wants.rows l ≡ true) × (demand_of wants.rows l ≤ get_or ys l 0) =
      whole_parts wants ys l whole in
      let busier : IsBusier a b =
      busier_by a b va (joined a wants b (turned wants a same_a) same_b) (λ h h_in leaf.
      less h (omega (arith, h_in, same_a.tree.as_many))
      (sym (leaf_same wants.rows a.rows same_a.tree h) ∙ leaf)) in
      let no_more : min (demand_of a.rows l) (get_or ys l 0) ≤ get_or xs l 0 =
      serve_no_more a b l xs ys va vb busier plan_a plan_b (count_in a same_a l below)
      (leaf_in a same_a l parts.0) in
      whole_from wants xs l parts.0 (omega (arith, parts.1, asks, no_more))

  known_asks : (T : ℕ → Bool) (l : ℕ) → l < length wants.rows → is_leaf wants.rows l ≡ true
      → demand_of wants.rows l ≤ demand_of (known T).rows l
  known_asks T l below leaf = elim (cases_Bool (T l)) [
    | inl yes' ↦ omega (arith, known_own T l below yes')
    | inr no' ↦
        let high : demand_of wants.rows l ≤ MAX_DEMAND = vw.demands l below in
        omega (arith, high, known_most T l below leaf no')
  ]

  -- More that is known serves no less whole.
  grows : (T U : ℕ → Bool) → ((l : ℕ) → l < length wants.rows → T l ≡ true → U l ≡ true) → (l : ℕ)
      → l < length wants.rows → after T l ≡ true → after U l ≡ true
  unfolding after
  grows T U more l below whole =
      passes_on (known U) (known T) (plan_known U) (plan_known T) (v_known U) (v_known T)
      (plan_known_is U) (plan_known_is T) (same_known U) (same_known T)
      (λ h h_in leaf. elim (cases_Bool (U h)) [
        | inl yes' ↦ omega (arith, known_own U h h_in yes', known_asks T h h_in leaf)
        | inr no' ↦ elim (cases_Bool (T h)) [
          | inl clash ↦ absurd (both_ways _ no' (more h h_in clash))
          | inr none ↦
              omega (arith, known_most U h h_in leaf no', known_most T h h_in leaf none)
        ]
      ]) l below
      (known_asks U l below (whole_parts wants (plan_known T) l whole).0) whole

  -- What is known to stay is served whole by the plan of the wants.
  stable_whole : (T : ℕ → Bool) → IsStable T → (l : ℕ) → l < length wants.rows → T l ≡ true
      → is_whole wants planned l ≡ true
  unfolding IsStable after
  stable_whole T stable l below is =
      passes_on wants (known T) planned (plan_known T) vw (v_known T) is_plan (plan_known_is T)
      (record {
        tree = record { as_many = refl; parents = λ g. refl };
        weights = λ h. refl;
        limits = λ h. refl;
      }) (same_known T) (known_asks T) l below (omega arith) (stable l below is)

  -- Where nothing new is served whole, all that the plan of the wants serves whole is.
  fixed_whole : (T : ℕ → Bool) → ((l : ℕ) → l < length wants.rows → after T l ≡ true → T l ≡ true)
      → (l : ℕ) → l < length wants.rows → is_whole wants planned l ≡ true → after T l ≡ true
  unfolding after
  fixed_whole T fixed l below whole =
      let parts : (is_leaf wants.rows l ≡ true) × (demand_of wants.rows l ≤ get_or planned l 0) =
      whole_parts wants planned l whole in
      let busier : IsBusier wants (known T) =
      busier_by wants (known T) vw (same_known T) (known_asks T) in
      let same : get_or (plan_known T) l 0 ≡ get_or planned l 0 =
      unused_changes wants (known T) planned (plan_known T) vw (v_known T) busier is_plan
      (plan_known_is T) fits l below in
      whole_from wants (plan_known T) l parts.0 (omega (arith, parts.1, same))
    where
      fits : (h : ℕ) → h < length wants.rows → is_leaf wants.rows h ≡ true
          → get_or (plan_known T) h 0 ≤ demand_of wants.rows h
      fits h h_in leaf = elim (cases_Bool (T h)) [
        | inl yes' ↦
            omega (
              arith,
              known_own T h h_in yes',
              within_demand (known T) (v_known T) (plan_known T) (plan_known_is T) h
                  (count_in (known T) (same_known T) h h_in)
                  (leaf_in (known T) (same_known T) h leaf),
            )
        | inr no' ↦ elim (cases_lt (get_or (plan_known T) h 0) (demand_of wants.rows h)) [
          | inl less ↦ omega (arith, less)
          | inr enough ↦ absurd
              (both_ways _ no'
              (fixed h h_in (whole_from wants (plan_known T) h leaf enough)))
        ]
      ]

  -- A round knows at least one more leaf, or all.
  more_known : (T : ℕ → Bool) → IsStable T → (k : ℕ)
      → count (length wants.rows) (is_whole wants planned) ≤ count (length wants.rows) T + suc k
      → count (length wants.rows) (is_whole wants planned)
      ≤ count (length wants.rows) (after T) + k
  unfolding IsStable
  more_known T stable k many = elim (missing (length wants.rows) (after T) T) [
    | inr found ↦
        let more : count (length wants.rows) T < count (length wants.rows) (after T) =
        count_more (length wants.rows) T (after T) stable found.0 found.1 found.3 found.2 in
        omega (arith, more, many)
    | inl fixed ↦
        let all : count (length wants.rows) (is_whole wants planned)
        ≤ count (length wants.rows) (after T) =
        count_le (length wants.rows) (is_whole wants planned) (after T)
        (fixed_whole T fixed) in
        omega (arith, all)
  ]

  next_stable : (T : ℕ → Bool) → IsStable T → IsStable (after T)
  unfolding IsStable
  next_stable T stable = grows T (after T) stable

  none_known : IsStable (λ _. false)
  unfolding IsStable
  none_known l below is = absurd (let clash : false ≡ true = is in cc)

  module _ (served : ℕ → ℕ → ℕ) (used : ℕ → Groups) (hungry : ℕ → List Bool)
      (limits : ℕ → List (Option ℕ)) (run : IsRun wants served used hungry limits) where
    -- What the plan on what is known serves whole is served whole in the next round.
    next_known : (T : ℕ → Bool) → IsStable T → (m : ℕ)
        → ((l : ℕ) → l < length wants.rows → T l ≡ true → is_hungry (hungry m) l ≡ false)
        → (l : ℕ) → l < length wants.rows → after T l ≡ true
        → is_hungry (hungry (suc m)) l ≡ false
    unfolding after
    next_known T stable m knows l below whole =
        let are : AreLimits (used m) (hungry m) (limits m) = run.rule m in
        let same : IsSameButDemands wants (round_of (used m) (hungry m)) =
        same_round (used m) wants (hungry m) are.0 are.1 (limits m) planned vw (run.readings m) are.2
        is_plan in
        let v_here : IsInstance (round_of (used m) (hungry m)) =
        round-IsInstance (used m) (run.readings m).valid (hungry m) in
        let leaf : is_leaf wants.rows l ≡ true = (whole_parts wants (plan_known T) l whole).0 in
        let here : is_whole wants are.1 l ≡ true =
        passes_on (round_of (used m) (hungry m)) (known T) are.1 (plan_known T) v_here (v_known T)
        are.2.amounts_are (plan_known_is T) same (same_known T)
        (λ h h_in leaf_h. elim (cases_Bool (T h)) [
          | inl yes' ↦
              omega (
                arith,
                known_own T h h_in yes',
                asks_own (used m) wants (hungry m) are.0 are.1 (limits m) planned vw (run.readings m)
                    are.2 is_plan h h_in leaf_h (knows h h_in yes'),
              )
          | inr no' ↦
              let high : demand_of (round_of (used m) (hungry m)).rows h ≤ MAX_DEMAND =
              v_here.demands h (count_in (round_of (used m) (hungry m)) same h h_in) in
              omega (arith, high, known_most T h h_in leaf_h no')
        ]) l below
        (asks_no_less (used m) wants (hungry m) are.0 are.1 (limits m) planned vw (run.readings m) are.2
        is_plan l below leaf) whole in
        next_sated wants (used m) (hungry m) (limits m) (served (suc m)) planned vw is_plan
        (run.readings m) are (run.serves m) (used (suc m)) (hungry (suc m)) (run.readings (suc m))
        (run.no_less m) l below leaf (whole_parts wants are.1 l here).1

    reaches : (k : ℕ) (T : ℕ → Bool) → IsStable T → (m j : ℕ) → m + k ≡ j
        → ((l : ℕ) → l < length wants.rows → T l ≡ true → is_hungry (hungry m) l ≡ false)
        → count (length wants.rows) (is_whole wants planned) ≤ count (length wants.rows) T + k
        → (l : ℕ) → l < length wants.rows → is_whole wants planned l ≡ true
        → is_hungry (hungry j) l ≡ false
    reaches zero T stable m j e knows many l below whole =
        let same : j ≡ m = omega (arith, e) in
        let here : T l ≡ true =
        filled (length wants.rows) T (is_whole wants planned) (stable_whole T stable)
        (omega (arith, many)) l below whole in
        ap (λ i. is_hungry (hungry i) l) same ∙ knows l below here
    reaches (suc k) T stable m j e knows many l below whole =
        reaches k (after T) (next_stable T stable) (suc m) j (omega (arith, e))
        (next_known T stable m knows) (more_known T stable k many) l below whole

    reached : (n : ℕ) → whole_count wants planned < n → ServesThePlan wants planned (served n)
    reached zero few = absurd (omega (arith, few))
    reached (suc k) few =
        serves_plan wants (used k) (hungry k) (limits k) (served (suc k)) planned vw is_plan
        (run.readings k) (run.rule k) (run.serves k)
        (reaches k (λ _. false) none_known 0 k (omega arith)
        (λ l below is. absurd (let clash : false ≡ true = is in cc))
        (omega (arith, few, count_is (length wants.rows) (is_whole wants planned))))

pub plan_is_reached : ThereIsOnePlan → PlanIsReached
plan_is_reached plans wants served used hungry limits planned vw is_plan run n few =
    reached wants planned vw is_plan plans served used hungry limits run n few
