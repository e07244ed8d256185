-- Weights of a pass from the root down are the least from the root down.
use Rattle.std.proofs.Common.{◌≡◌, ◌≢◌, ℕ, ◌<◌, ◌≤◌, List, Bool, length, true, false, None, Some}
use Rattle.std.proofs.Common.{get_or, refl, ap, sym, ◌∙◌, arith, inl, inr}
use Rattle.std.specs.Prelude.{map, slice_index, slice_index_or}
use Rattle.std.proofs.lemmas.Bool.{cases_eq, cases_lt, cases_Bool}
use Rattle.std.proofs.lemmas.List.{length-map}
use Rattle.bw_model.specs.declared.row.Row.{Row}
use Rattle.bw_model.specs.declared.limits.TheConstants.{MAX_WEIGHT}
use Rattle.bw_model.specs.Groups.{Groups, IsInstance, AreTreeRows, parent_of, children_of, is_leaf}
use Rattle.bw_model.specs.Groups.{weight_of, demand_of, limit_of, is_under}
use Rattle.bw_model.specs.Demand.{AreMaxTotals, want_of}
use Rattle.bw_model.specs.Plan.{IsPlan, child_weights}
use Rattle.bw_model.proofs.CallerLemmas.{AreMaxTotals-capped, capped, child_at, get_or-map}
use Rattle.bw_model.proofs.CallerLemmas.{parent_lt, listed_child, parent_not_leaf, from_the_last}
use Rattle.bw_model.proofs.CallerLemmas.{is_under-self, most_le_want, planned-IsPlan, strong}
use Rattle.bw_plan.specs.Shared.{IsPlanning}
use Rattle.bw_plan.proofs.CallerLemmas.{at_most, plan-IsPlanning}
use Rattle.bw_questions.specs.changes.Tree.{IsSameTree}
use Rattle.bw_questions.proofs.changes.Trees.{at_children, children_same, from_the_root}
use Rattle.bw_questions.proofs.changes.Trees.{leaf_same, step_same, under_same, want_same}
use Rattle.bw_questions.specs.Passes.{AreAllNeeds, AreColumns, IsBeyond, IsLeastAt, IsNeed, IsPassed}
use Rattle.bw_questions.specs.Passes.{MeetsAt, Suffices, of_children}
use Rattle.bw_questions.specs.FromRoot.{AgreesAbove, AreReached, AreRowWeights, AreTops}
use Rattle.bw_questions.specs.FromRoot.{GoalFits, IsLeastFromRoot, IsNeverReached, IsNoLighter}
use Rattle.bw_questions.specs.FromRoot.{IsReweightedAt}
use Rattle.bw_questions.specs.declared.from_root.measure.Measure.TheVariants.{Planned}
use Rattle.bw_questions.specs.FromRoot.{weighed}
use Rattle.bw_questions.proofs.Paths.{above_cases, above_le, above_parent, above_top}
use Rattle.bw_questions.proofs.Weighed.{as_many, demands_kept, limits_kept, tree_kept, weight_at}
use Rattle.bw_questions.proofs.Weighed.{weight_past, weighed-IsInstance}

pub none_some : (p : ℕ) → None ≡ Some p → ⊥
none_some p e = cc

-- What is above a group has its parent above it too.
pub parent_above : (rows : List Row) → AreTreeRows rows → (c p : ℕ) → parent_of rows c ≡ Some p
    → (h : ℕ) → is_under rows c h ≡ true → is_under rows p h ≡ true
parent_above rows tree c p up = strong (λ h. is_under rows c h ≡ true → is_under rows p h ≡ true)
    (λ h before under.
    (elim (parent_of rows h) as (λ o. parent_of rows h ≡ o → is_under rows p h ≡ true) [
      | None ↦ λ e.
          let same : h ≡ c = above_top rows tree c h e under in
          absurd (none_some p (sym e ∙ ap (parent_of rows) same ∙ up))
      | Some q ↦ λ e. elim (above_cases rows tree c h q e under) [
        | inl here ↦
            above_parent rows tree p h p (ap (parent_of rows) here ∙ up) (is_under-self rows tree p)
        | inr high ↦ above_parent rows tree p h q e (before q (parent_lt rows tree h q e) high)
      ]
    ]) refl)

-- Two instances of one tree with equal demands and limits: the mosts of one are those of the other.
module _ (a b : Groups) (va : IsInstance a) (vb : IsInstance b) (tree : IsSameTree a.rows b.rows)
    (demands : (h : ℕ) → demand_of b.rows h ≡ demand_of a.rows h)
    (limits : (h : ℕ) → limit_of b h ≡ limit_of a h) (most : List ℕ)
    (rule : (g : ℕ) → g < length a.rows
    → get_or most g 0 ≡ capped (limit_of a g) (want_of a most g)) where
  pub rule_same : (g : ℕ) → g < length b.rows
      → get_or most g 0 ≡ capped (limit_of b g) (want_of b most g)
  rule_same g below =
      rule g (omega (arith, below, tree.as_many))
      ∙ sym (ap (λ l. capped l (want_of b most g)) (limits g)
      ∙ ap (capped (limit_of a g)) (want_same a b va vb tree most most g (demands g)
      (λ c c_in up. refl)))

-- A goal that is no more than its row can be given fits.
pub goal_fits : (groups : Groups) → IsInstance groups → (most goals : List ℕ)
    → AreMaxTotals groups most → (h : ℕ) → h < length groups.rows
    → get_or goals h 0 ≤ get_or most h 0 → GoalFits groups goals h
goal_fits groups valid most goals mosts h below fits =
    let rule = AreMaxTotals-capped groups valid.tree most mosts in
    record {
      limit = λ limit is.
          let cut : get_or most h 0 ≡ capped (Some limit) (want_of groups most h) =
          rule h below ∙ ap (λ l. capped l (want_of groups most h)) is in
          omega (arith, fits, cut);
      demand = λ leaf.
          omega (arith, fits, rw leaf at (most_le_want groups valid.tree most rule h below));
    }

-- The greatest weights that rows may have, beside their mosts and goals.
pub tops_columns : (groups : Groups) → IsInstance groups → (tops most goals : List ℕ)
    (may : List Bool) → AreMaxTotals groups most → AreTops groups.rows may tops
    → length goals ≡ length groups.rows → AreColumns groups tops most goals
tops_columns groups valid tops most goals may mosts are long = record {
  mosts = mosts;
  tops_each = are.one_each;
  goals_each = long;
  rising = λ h below. elim (cases_Bool (slice_index_or may h false)) [
    | inl free ↦
        let top : get_or tops h 0 ≡ MAX_WEIGHT = are.each h below ∙ rw free refl in
        omega (arith, top, (valid.weights h below).1)
    | inr stays ↦
        let top : get_or tops h 0 ≡ weight_of groups.rows h = are.each h below ∙ rw stays refl in
        omega (arith, top)
  ];
  greatest = λ h below. elim (cases_Bool (slice_index_or may h false)) [
    | inl free ↦
        let top : get_or tops h 0 ≡ MAX_WEIGHT = are.each h below ∙ rw free refl in
        omega (arith, top)
    | inr stays ↦
        let top : get_or tops h 0 ≡ weight_of groups.rows h = are.each h below ∙ rw stays refl in
        omega (arith, top, (valid.weights h below).1)
  ];
}

module _ (groups : Groups) (valid : IsInstance groups) (tops most goals : List ℕ)
    (may : List Bool) (columns : AreColumns groups tops most goals)
    (are_tops : AreTops groups.rows may tops) where
  rule : (g : ℕ) → g < length groups.rows
      → get_or most g 0 ≡ capped (limit_of groups g) (want_of groups most g)
  rule = AreMaxTotals-capped groups valid.tree most columns.mosts

  -- Other weights of rows that may change, none less than those that stand, and their plan.
  module _ (others : Groups) (is_other : IsReweightedAt groups others may)
      (heavier : IsNoLighter groups others) (ys : List ℕ) (is_plan : IsPlan others ys) where
    pub planning : IsPlanning others most (λ _. true) ys
    planning = plan-IsPlanning others is_other.valid most
        (rule_same groups others valid is_other.valid is_other.tree is_other.demands
        is_other.limits most rule) ys is_plan

    no_higher : (c : ℕ) → c < length groups.rows → weight_of others.rows c ≤ get_or tops c 0
    no_higher c below = elim (cases_Bool (slice_index_or may c false)) [
      | inl free ↦
          let top : get_or tops c 0 ≡ MAX_WEIGHT = are_tops.each c below ∙ rw free refl in
          omega (
            arith,
            top,
            (is_other.valid.weights c (omega (arith, below, is_other.tree.as_many))).1,
          )
      | inr stays ↦
          let top : get_or tops c 0 ≡ weight_of groups.rows c =
          are_tops.each c below ∙ rw stays refl in
          omega (arith, top, is_other.weights c stays)
    ]

    -- Where each child has what it needs, the weights meet the needs.
    pub others_meet : (needs : List ℕ) (p : ℕ) → p < length groups.rows
        → is_leaf groups.rows p ≡ false
        → ((c : ℕ) → c < length groups.rows → parent_of groups.rows c ≡ Some p
        → get_or needs c 0 ≤ get_or ys c 0)
        → MeetsAt groups tops most needs p (get_or ys p 0)
        (map (weight_of others.rows) (children_of groups.rows p)) (of_children groups.rows ys p)
    others_meet needs p below inner met = record {
      between = record {
        one_each = length-map (children_of groups.rows p) (weight_of others.rows)
            ∙ sym (length-map (children_of groups.rows p) (weight_of groups.rows));
        no_less = λ k k_in.
            let inside : k < length (children_of groups.rows p) =
            omega (arith, k_in, length-map (children_of groups.rows p) (weight_of groups.rows)) in
            rw (
              get_or-map (weight_of groups.rows) (children_of groups.rows p) k inside,
              get_or-map (weight_of others.rows) (children_of groups.rows p) k inside,
            )
            (heavier (get_or (children_of groups.rows p) k 0));
        no_more = λ k k_in.
            let inside : k < length (children_of groups.rows p) =
            omega (arith, k_in, length-map (children_of groups.rows p) (weight_of groups.rows)) in
            rw (
              get_or-map (weight_of others.rows) (children_of groups.rows p) k inside,
              get_or-map (slice_index tops) (children_of groups.rows p) k inside,
            )
            (no_higher (get_or (children_of groups.rows p) k 0)
            (child_at groups.rows p k inside).within);
      };
      split =
          rw (children_same groups.rows others.rows is_other.tree p) at
          (planning.splits p (omega (arith, below, is_other.tree.as_many)) refl
          (leaf_same groups.rows others.rows is_other.tree p ∙ inner));
      met = λ k k_in.
          let inside : k < length (children_of groups.rows p) =
          omega (arith, k_in, length-map (children_of groups.rows p) (slice_index ys)) in
          rw (
            get_or-map (slice_index needs) (children_of groups.rows p) k inside,
            get_or-map (slice_index ys) (children_of groups.rows p) k inside,
          )
          (met (get_or (children_of groups.rows p) k 0) (child_at groups.rows p k inside).within
          (child_at groups.rows p k inside).parent);
    }

    -- Where the goals at and below a group are met, what it has suffices.
    pub sufficient : (needs : List ℕ) (h : ℕ) → h < length groups.rows
        → ((c : ℕ) → h < c → c < length groups.rows → IsNeed groups tops most goals needs c)
        → ((l : ℕ) → l < length groups.rows → is_under groups.rows h l ≡ true
        → get_or goals l 0 ≤ get_or ys l 0)
        → Suffices groups tops most goals needs h (get_or ys h 0)
    sufficient needs = from_the_last (length groups.rows)
        (λ h. ((c : ℕ) → h < c → c < length groups.rows → IsNeed groups tops most goals needs c)
        → ((l : ℕ) → l < length groups.rows → is_under groups.rows h l ≡ true
        → get_or goals l 0 ≤ get_or ys l 0)
        → Suffices groups tops most goals needs h (get_or ys h 0))
        (λ h below later known met. record {
          goal = met h below (is_under-self groups.rows valid.tree h);
          served = λ top.
              let here : get_or ys h 0 ≡ get_or most 0 0 =
              ap (λ x. get_or ys x 0) top ∙ planning.top in
              omega (arith, here);
          within =
              at_most others is_other.valid most
              (rule_same groups others valid is_other.valid is_other.tree is_other.demands
              is_other.limits most rule) (λ _. true) h ys planning (λ p up. refl)
              (omega (arith, below, is_other.tree.as_many));
          small = planning.small h (omega (arith, below, is_other.tree.as_many));
          inside = λ inner. (
            map (weight_of others.rows) (children_of groups.rows h),
            of_children groups.rows ys h,
            others_meet needs h below inner
                (λ c c_in up.
                let after : h < c = parent_lt groups.rows valid.tree c h up in
                (known c after c_in).1 (get_or ys c 0)
                (later c after c_in
                (λ d past d_in. known d (omega (arith, past, after)) d_in)
                (λ l l_in under. met l l_in
                (parent_above groups.rows valid.tree c h up l under)))),
          );
        })

  -- A group for which no amount suffices never has its goals met.
  pub never_reached : (top : ℕ) → IsBeyond groups tops most goals top
      → IsNeverReached groups goals may top
  never_reached top beyond = record {
    within = beyond.within;
    lowest = λ h below under apart.
        let after : top < h =
        omega (arith, above_le groups.rows valid.tree top h under, apart) in
        let need = (beyond.later h after below).0 in
        goal_fits groups valid most goals columns.mosts h below
        (omega (arith, need.goal, need.within));
    never = λ others is_other heavier reached.
        beyond.never (get_or reached.amounts top 0)
        (sufficient others is_other heavier reached.amounts reached.plan beyond.needs top
        beyond.within beyond.later
        (λ l l_in under.
        reached.met l (omega (arith, l_in, is_other.tree.as_many))
        (under_same groups.rows others.rows valid.tree is_other.valid.tree is_other.tree top l
        ∙ under)));
  }

  -- A whole pass.
  module _ (needs : List ℕ) (all : AreAllNeeds groups tops most goals needs)
      (weights amounts : List ℕ)
      (passed : IsPassed groups tops most needs (length groups.rows) weights amounts) where
    shared : (p : ℕ) → p < length groups.rows → is_leaf groups.rows p ≡ false
        → IsLeastAt groups tops most needs p (get_or amounts p 0)
        (of_children groups.rows weights p) (of_children groups.rows amounts p)
    shared p below inner = passed.done p below below inner

    -- Each weight is from the one that stands to its top.
    in_between : (g : ℕ) → g < length groups.rows
        → (weight_of groups.rows g ≤ get_or weights g 0) × (get_or weights g 0 ≤ get_or tops g 0)
    in_between g below = elim (cases_eq g 0) [
      | inl top ↦
          let here : get_or weights g 0 ≡ weight_of groups.rows g =
          ap (λ h. get_or weights h 0) top ∙ passed.root_weight
          ∙ sym (ap (weight_of groups.rows) top) in
          (omega (arith, here), omega (arith, here, columns.rising g below))
      | inr deeper ↦
          let known : (p : ℕ) × (parent_of groups.rows g ≡ Some p) × (p < g) =
          valid.tree.parent_before g (omega (arith, deeper)) below in
          let place : (k : ℕ) × (k < length (children_of groups.rows known.0))
          × (get_or (children_of groups.rows known.0) k 0 ≡ g) =
          listed_child groups.rows known.0 g below known.1 in
          let done = (shared known.0 (omega (arith, known.2, below))
          (parent_not_leaf groups.rows known.0 g below known.1)).meets.between in
          let inside : place.0 < length (child_weights groups.rows known.0) =
          omega (
            arith,
            place.1,
            length-map (children_of groups.rows known.0) (weight_of groups.rows),
          ) in
          let at_floor : get_or (child_weights groups.rows known.0) place.0 0
          ≡ weight_of groups.rows g =
          get_or-map (weight_of groups.rows) (children_of groups.rows known.0) place.0 place.1
          ∙ ap (weight_of groups.rows) place.2 in
          let at_weight : get_or (of_children groups.rows weights known.0) place.0 0
          ≡ get_or weights g 0 =
          get_or-map (slice_index weights) (children_of groups.rows known.0) place.0 place.1
          ∙ ap (slice_index weights) place.2 in
          let at_top : get_or (of_children groups.rows tops known.0) place.0 0 ≡ get_or tops g 0 =
          get_or-map (slice_index tops) (children_of groups.rows known.0) place.0 place.1
          ∙ ap (slice_index tops) place.2 in (
            omega (arith, done.no_less place.0 inside, at_floor, at_weight),
            omega (arith, done.no_more place.0 inside, at_weight, at_top),
          )
    ]

    pub are_weights : AreRowWeights groups.rows weights
    are_weights = record {
      one_each = passed.weights_each;
      in_range = λ g below. (
        omega (arith, (valid.weights g below).0, (in_between g below).0),
        omega (arith, columns.greatest g below, (in_between g below).1),
      );
    }

    tuned_valid : IsInstance (weighed groups weights)
    tuned_valid = weighed-IsInstance groups weights valid are_weights

    tuned_weights : (p : ℕ) → child_weights (weighed groups weights).rows p
        ≡ of_children groups.rows weights p
    tuned_weights p =
        ap (map (weight_of (weighed groups weights).rows))
        (children_same groups.rows (weighed groups weights).rows (tree_kept groups weights) p)
        ∙ at_children groups.rows (weight_of (weighed groups weights).rows) (slice_index weights) p
        (λ c c_in up. weight_at groups weights c c_in)

    tuned_rule : (g : ℕ) → g < length (weighed groups weights).rows
        → get_or most g 0
        ≡ capped (limit_of (weighed groups weights) g) (want_of (weighed groups weights) most g)
    tuned_rule = rule_same groups (weighed groups weights) valid tuned_valid
        (tree_kept groups weights) (demands_kept groups weights) (limits_kept groups weights) most
        rule

    tuned_plan : IsPlan (weighed groups weights) amounts
    tuned_plan = planned-IsPlan (weighed groups weights) tuned_valid.tree most tuned_rule amounts
        (passed.amounts_each ∙ sym (as_many groups weights)) passed.top
        (λ h below inner.
        rw (
          tuned_weights h,
          children_same groups.rows (weighed groups weights).rows (tree_kept groups weights) h,
        )
        (shared h (omega (arith, below, as_many groups weights))
        (sym (leaf_same groups.rows (weighed groups weights).rows (tree_kept groups weights) h)
        ∙ inner)).meets.split)

    tuned_reweighted : IsReweightedAt groups (weighed groups weights) may
    tuned_reweighted = record {
      valid = tuned_valid;
      shape = refl;
      tree = tree_kept groups weights;
      demands = demands_kept groups weights;
      limits = limits_kept groups weights;
      weights = λ h stays. elim (cases_lt h (length groups.rows)) [
        | inl below ↦
            let top : get_or tops h 0 ≡ weight_of groups.rows h =
            are_tops.each h below ∙ rw stays refl in
            omega (arith, top, in_between h below, weight_at groups weights h below)
        | inr past ↦ weight_past groups weights h past
      ];
    }

    tuned_heavier : IsNoLighter groups (weighed groups weights)
    tuned_heavier h = elim (cases_lt h (length groups.rows)) [
      | inl below ↦
          omega (arith, (in_between h below).0, weight_at groups weights h below)
      | inr past ↦ omega (arith, weight_past groups weights h past)
    ]

    -- Each row has what it needs.
    has_need : (g : ℕ) → g < length groups.rows → get_or needs g 0 ≤ get_or amounts g 0
    has_need g below = elim (cases_eq g 0) [
      | inl top ↦
          let need : get_or needs g 0 ≤ get_or most g 0 = (all.each g below).0.within in
          let here : get_or amounts g 0 ≡ get_or most g 0 =
          ap (λ h. get_or amounts h 0) top ∙ passed.top ∙ sym (ap (λ h. get_or most h 0) top) in
          omega (arith, need, here)
      | inr deeper ↦
          let known : (p : ℕ) × (parent_of groups.rows g ≡ Some p) × (p < g) =
          valid.tree.parent_before g (omega (arith, deeper)) below in
          let place : (k : ℕ) × (k < length (children_of groups.rows known.0))
          × (get_or (children_of groups.rows known.0) k 0 ≡ g) =
          listed_child groups.rows known.0 g below known.1 in
          let done = (shared known.0 (omega (arith, known.2, below))
          (parent_not_leaf groups.rows known.0 g below known.1)).meets in
          let at_amount : get_or (of_children groups.rows amounts known.0) place.0 0
          ≡ get_or amounts g 0 =
          get_or-map (slice_index amounts) (children_of groups.rows known.0) place.0 place.1
          ∙ ap (slice_index amounts) place.2 in
          let at_need : get_or (of_children groups.rows needs known.0) place.0 0
          ≡ get_or needs g 0 =
          get_or-map (slice_index needs) (children_of groups.rows known.0) place.0 place.1
          ∙ ap (slice_index needs) place.2 in
          omega (
            arith,
            done.met place.0
                (omega (
                  arith,
                  place.1,
                  length-map (children_of groups.rows known.0) (slice_index amounts),
                )),
            at_amount,
            at_need,
          )
    ]

    -- The weight of a row is at most that of others which agree above it.
    tuned_least : (others : Groups) → IsReweightedAt groups others may → IsNoLighter groups others
        → AreReached others goals → (h : ℕ) → AgreesAbove (weighed groups weights) others h
        → weight_of (weighed groups weights).rows h ≤ weight_of others.rows h
    tuned_least others is_other heavier reached h agrees =
        elim (cases_lt h (length groups.rows)) [
          | inr past ↦ omega (arith, weight_past groups weights h past, heavier h)
          | inl below ↦ elim (cases_eq h 0) [
            | inl top ↦
                let here : get_or weights h 0 ≡ weight_of groups.rows h =
                ap (λ x. get_or weights x 0) top ∙ passed.root_weight
                ∙ sym (ap (weight_of groups.rows) top) in
                omega (arith, here, weight_at groups weights h below, heavier h)
            | inr deeper ↦
                let known : (p : ℕ) × (parent_of groups.rows h ≡ Some p) × (p < h) =
                valid.tree.parent_before h (omega (arith, deeper)) below in
                under_parent below known.0 known.1
          ]
        ]
      where
        ours : IsPlanning (weighed groups weights) most (λ _. true) amounts
        ours = plan-IsPlanning (weighed groups weights) tuned_valid most tuned_rule amounts
            tuned_plan

        theirs : IsPlanning others most (λ _. true) reached.amounts
        theirs = planning others is_other heavier reached.amounts reached.plan

        beside : IsSameTree (weighed groups weights).rows others.rows
        beside = record {
          as_many = is_other.tree.as_many ∙ sym (as_many groups weights);
          parents = λ g. is_other.tree.parents g ∙ sym ((tree_kept groups weights).parents g);
        }

        above_same : (c : ℕ) → c < length (weighed groups weights).rows
            → is_under (weighed groups weights).rows c h ≡ true → c ≢ h
            → get_or reached.amounts c 0 ≡ get_or amounts c 0
        above_same = from_the_root (weighed groups weights).rows tuned_valid.tree
            (λ c. is_under (weighed groups weights).rows c h ≡ true → c ≢ h
            → get_or reached.amounts c 0 ≡ get_or amounts c 0)
            (λ under apart. theirs.top ∙ sym ours.top)
            (λ c p c_in up same under apart.
            let less : p < c = parent_lt (weighed groups weights).rows tuned_valid.tree c p up in
            let no_deeper : c ≤ h = above_le (weighed groups weights).rows tuned_valid.tree c h under
            in
            step_same (weighed groups weights) others tuned_valid is_other.valid beside most most
            amounts reached.amounts ours theirs c p c_in (omega (arith, less, c_in)) up
            (same (parent_above (weighed groups weights).rows tuned_valid.tree c p up h under)
            (λ e. let clash : ⊥ = omega (arith, e, less, no_deeper) in clash))
            (λ s s_in e. agrees c s p under apart up e)
            (λ s s_in e. refl))

        under_parent : h < length groups.rows → (p : ℕ) → parent_of groups.rows h ≡ Some p
            → weight_of (weighed groups weights).rows h ≤ weight_of others.rows h
        under_parent below p up =
            let less : p < h = parent_lt groups.rows valid.tree h p up in
            let up_too : parent_of (weighed groups weights).rows h ≡ Some p =
            (tree_kept groups weights).parents h ∙ up in
            let inner : is_leaf groups.rows p ≡ false = parent_not_leaf groups.rows p h below up in
            let p_in : p < length groups.rows = omega (arith, less, below) in
            let same : get_or reached.amounts p 0 ≡ get_or amounts p 0 =
            above_same p (omega (arith, p_in, as_many groups weights))
            (above_parent (weighed groups weights).rows tuned_valid.tree p h p up_too
            (is_under-self (weighed groups weights).rows tuned_valid.tree p))
            (λ e. let clash : ⊥ = omega (arith, e, less) in clash) in
            let meets : MeetsAt groups tops most needs p (get_or amounts p 0)
            (map (weight_of others.rows) (children_of groups.rows p))
            (of_children groups.rows reached.amounts p) =
            rw same at (others_meet others is_other heavier reached.amounts reached.plan needs p
            p_in inner
            (λ c c_in e. (all.each c c_in).1 (get_or reached.amounts c 0)
            (sufficient others is_other heavier reached.amounts reached.plan needs c c_in
            (λ d past d_in. all.each d d_in)
            (λ l l_in under. reached.met l (omega (arith, l_in, is_other.tree.as_many)))))) in
            let place : (k : ℕ) × (k < length (children_of groups.rows p))
            × (get_or (children_of groups.rows p) k 0 ≡ h) =
            listed_child groups.rows p h below up in
            let at_ours : get_or (of_children groups.rows weights p) place.0 0
            ≡ get_or weights h 0 =
            get_or-map (slice_index weights) (children_of groups.rows p) place.0 place.1
            ∙ ap (slice_index weights) place.2 in
            let at_theirs : get_or (map (weight_of others.rows) (children_of groups.rows p)) place.0 0
            ≡ weight_of others.rows h =
            get_or-map (weight_of others.rows) (children_of groups.rows p) place.0 place.1
            ∙ ap (weight_of others.rows) place.2 in
            omega (
              arith,
              (shared p p_in inner).least _ _ meets place.0 place.1,
              at_ours,
              at_theirs,
              weight_at groups weights h below,
            )

    pub least_from_root : IsLeastFromRoot Planned groups goals may (weighed groups weights)
    least_from_root = record {
      reweighted = tuned_reweighted;
      no_lighter = tuned_heavier;
      met = record {
        amounts = amounts;
        plan = tuned_plan;
        met = λ h below.
            let inside : h < length groups.rows = omega (arith, below, as_many groups weights) in
            omega (arith, (all.each h inside).0.goal, has_need h inside);
      };
      least = tuned_least;
    }
