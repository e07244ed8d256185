-- All guarantees by one plan, in which each leaf asks for the most.
use Rattle.std.proofs.Common.{◌≡◌, ℕ, ◌<◌, ◌≤◌, List, true, false, length, get_or}
use Rattle.std.proofs.Common.{refl, ap, sym, ◌∙◌, subst, arith, inl, inr}
use Rattle.std.specs.Prelude.{min, map, slice_index}
use Rattle.std.specs.List.{range_with_len}
use Rattle.std.proofs.lemmas.Bool.{cases_lt, cases_Bool}
use Rattle.std.proofs.lemmas.List.{get_or_past}
use Rattle.std.proofs.lemmas.List.FromFn.{get_or-map-range_with_len, length-map-range_with_len}
use Rattle.bw_model.specs.declared.row.Row.{Row}
use Rattle.bw_model.specs.declared.limits.TheConstants.{MAX_DEMAND}
use Rattle.bw_model.specs.Allocation.{IsMost}
use Rattle.bw_model.specs.Groups.{Groups, IsInstance, no_row, is_leaf, is_under}
use Rattle.bw_model.specs.Groups.{weight_of, demand_of, limit_of}
use Rattle.bw_model.specs.Demand.{AreMaxTotals, want_of}
use Rattle.bw_model.specs.Plan.{IsPlan}
use Rattle.bw_model.proofs.CallerLemmas.{capped, capped-IsMost, from_the_last, is_under-self}
use Rattle.bw_model.proofs.CallerLemmas.{mosts, mosts-capped, parent_lt}
use Rattle.bw_plan.specs.Laws.{HasOnePlan, ThereIsOnePlan}
use Rattle.bw_questions.specs.changes.Asked.{DemandsInsideOnlyCut, IsBusierInside}
use Rattle.bw_questions.specs.changes.Tree.{IsSameTree}
use Rattle.bw_questions.proofs.changes.OtherDemands.{limits_same, same_tree}
use Rattle.bw_questions.proofs.changes.Trees.{leaf_same, under_same}
use Rattle.bw_questions.proofs.changes.OtherDemands.{weights_same}
use Rattle.bw_questions.proofs.changes.Trees.{want_same}
use Rattle.bw_questions.specs.Busy.{busy_rows}
use Rattle.bw_questions.specs.FromRoot.{IsKept}
use Rattle.bw_questions.specs.Guarantee.{IsGuaranteed}
use Rattle.bw_questions.specs.HeldRule.{demand_where, everyone}
use Rattle.bw_questions.proofs.AskingRows.{asking_alike, asking_limits, demand_at}
use Rattle.bw_questions.proofs.AskingRows.{everyone-IsInstance}
use Rattle.bw_questions.proofs.BusyRows.{AreBusy, are_busy, busy-IsInstance, demand_leaf}
use Rattle.bw_questions.proofs.BusyRows.{demands_under}
use Rattle.bw_questions.proofs.LeastAmount.{least}
use Rattle.bw_questions.proofs.Paths.{above_parent}

-- An instance of equal weights and limits in which each leaf asks for the most.
pub record IsBusied (groups busy : Groups) : Type 0 where
  pub valid : IsInstance busy
  pub tree : IsSameTree groups.rows busy.rows
  pub weights : (h : ℕ) → weight_of busy.rows h ≡ weight_of groups.rows h
  pub limits : (h : ℕ) → limit_of busy h ≡ limit_of groups h
  pub most : (h : ℕ) → h < length groups.rows → is_leaf groups.rows h ≡ true
      → demand_of busy.rows h ≡ MAX_DEMAND

pub busied_everyone : (groups : Groups) → IsInstance groups → IsBusied groups (everyone groups)
busied_everyone groups valid =
    let alike = asking_alike groups (λ g. demand_where groups.rows true g) in
    record {
      valid = everyone-IsInstance groups valid;
      tree = same_tree groups.rows (everyone groups).rows alike;
      weights = weights_same groups.rows (everyone groups).rows alike;
      limits = asking_limits groups (λ g. demand_where groups.rows true g);
      most = λ h below leaf.
          demand_at groups (λ g. demand_where groups.rows true g) h below ∙ rw leaf refl;
    }

-- Behind the last row no row asks for anything.
pub asks_nothing : (groups : Groups) (h : ℕ) → length groups.rows ≤ h → demand_of groups.rows h ≡ 0
asks_nothing groups h past = ap (λ (r : Row). r.demand) (get_or_past groups.rows h no_row past)

-- A group has one guarantee.
pub one_guarantee : (groups : Groups) (h x y : ℕ) → IsGuaranteed groups h x → IsGuaranteed groups h y
    → x ≡ y
one_guarantee groups h x y one two =
    omega (
      arith,
      one.none_less two.reached.0 two.reached.1 two.reached.2 two.reached.3,
      two.reached.4,
      two.none_less one.reached.0 one.reached.1 one.reached.2 one.reached.3,
      one.reached.4,
    )

-- the most of each row, as a list
listed_mosts : (groups : Groups) → IsInstance groups → List ℕ
listed_mosts groups valid =
    map (slice_index (mosts groups valid.tree)) (range_with_len 0 (length groups.rows))

listed_at : (groups : Groups) (valid : IsInstance groups) (h : ℕ) → h < length groups.rows
    → get_or (listed_mosts groups valid) h 0 ≡ get_or (mosts groups valid.tree) h 0
unfolding listed_mosts
listed_at groups valid h below =
    get_or-map-range_with_len (slice_index (mosts groups valid.tree)) 0 (length groups.rows) h h 0
    below (omega arith)

listed-AreMaxTotals : (groups : Groups) (valid : IsInstance groups)
    → AreMaxTotals groups (listed_mosts groups valid)
unfolding listed_mosts
listed-AreMaxTotals groups valid = record {
  one_each = length-map-range_with_len (slice_index (mosts groups valid.tree)) 0
      (length groups.rows);
  each = λ g below.
      subst (λ (x : ℕ). IsMost groups g x) (sym (listed_at groups valid g below))
      (capped-IsMost groups valid.tree (mosts groups valid.tree)
      (mosts-capped groups valid.tree) g below);
}

-- One group beside the busy plan.
module _ (a b : Groups) (va : IsInstance a) (busied : IsBusied a b) (group : ℕ)
    (below : group < length a.rows) where
  are : AreBusy a.rows group (busy_rows a.rows group)
  are = are_busy a.rows group

  asked_valid : IsInstance (record { shape = a.shape; rows = busy_rows a.rows group })
  asked_valid = busy-IsInstance a va group (busy_rows a.rows group) are

  tree_asked : IsSameTree a.rows (busy_rows a.rows group)
  tree_asked = same_tree a.rows (busy_rows a.rows group) are.alike

  demand_less : (h : ℕ) → demand_of (busy_rows a.rows group) h ≤ demand_of b.rows h
  demand_less h = elim (cases_lt h (length a.rows)) [
    | inr past ↦
        omega (
          arith,
          asks_nothing (record { shape = a.shape; rows = busy_rows a.rows group }) h
              (omega (arith, past, are.alike.one_each)),
        )
    | inl within ↦
        let inside : h < length (busy_rows a.rows group) =
        omega (arith, within, are.alike.one_each) in
        elim (cases_Bool (is_leaf a.rows h)) [
          | inl leaf ↦ omega (arith, busied.most h within leaf, asked_valid.demands h inside)
          | inr inner ↦
              omega (
                arith,
                asked_valid.inner_idle h inside
                    (leaf_same a.rows (busy_rows a.rows group) tree_asked h ∙ inner),
              )
        ]
  ]

  demand_out : (h : ℕ) → is_under (busy_rows a.rows group) group h ≡ false
      → demand_of b.rows h ≡ demand_of (busy_rows a.rows group) h
  demand_out h out = elim (cases_lt h (length a.rows)) [
    | inr past ↦
        asks_nothing b h (omega (arith, past, busied.tree.as_many))
        ∙ sym (asks_nothing (record { shape = a.shape; rows = busy_rows a.rows group }) h
        (omega (arith, past, are.alike.one_each)))
    | inl within ↦ elim (cases_Bool (is_leaf a.rows h)) [
      | inl leaf ↦
          busied.most h within leaf
          ∙ sym (are.demands h within
          ∙ demand_leaf a va group (busy_rows a.rows group) are h leaf
          (sym (under_same a.rows (busy_rows a.rows group) va.tree asked_valid.tree tree_asked
          group h) ∙ out))
      | inr inner ↦
          busied.valid.inner_idle h (omega (arith, within, busied.tree.as_many))
          (leaf_same a.rows b.rows busied.tree h ∙ inner)
          ∙ sym (asked_valid.inner_idle h (omega (arith, within, are.alike.one_each))
          (leaf_same a.rows (busy_rows a.rows group) tree_asked h ∙ inner))
    ]
  ]

  busier_inside : IsBusierInside (record { shape = a.shape; rows = busy_rows a.rows group }) b group
  busier_inside = record {
    no_less = record {
      tree = record {
        as_many = busied.tree.as_many ∙ sym are.alike.one_each;
        parents = λ h. busied.tree.parents h ∙ sym (tree_asked.parents h);
      };
      weights = λ h.
          busied.weights h ∙ sym (weights_same a.rows (busy_rows a.rows group) are.alike h);
      limits = λ h.
          busied.limits h ∙ sym (limits_same a (busy_rows a.rows group) are.alike h);
      demands = demand_less;
    };
    within = omega (arith, below, are.alike.one_each);
    outside = demand_out;
  }

  module _ (most : List ℕ) (rule : (g : ℕ) → g < length a.rows
      → get_or most g 0 ≡ capped (limit_of a g) (want_of a most g)) where
    -- The group and what is below it can be given what they could.
    kept_most : (h : ℕ) → h < length a.rows → is_under a.rows group h ≡ true
        → get_or (mosts (record { shape = a.shape; rows = busy_rows a.rows group })
        asked_valid.tree) h 0 ≡ get_or most h 0
    kept_most = from_the_last (length a.rows)
        (λ h. is_under a.rows group h ≡ true
        → get_or (mosts (record { shape = a.shape; rows = busy_rows a.rows group })
        asked_valid.tree) h 0 ≡ get_or most h 0)
        (λ h within later under.
        mosts-capped (record { shape = a.shape; rows = busy_rows a.rows group })
        asked_valid.tree h (omega (arith, within, are.alike.one_each))
        ∙ ap (λ l. capped l
        (want_of (record { shape = a.shape; rows = busy_rows a.rows group })
        (mosts (record { shape = a.shape; rows = busy_rows a.rows group }) asked_valid.tree) h))
        (limits_same a (busy_rows a.rows group) are.alike h)
        ∙ ap (capped (limit_of a h))
        (want_same a (record { shape = a.shape; rows = busy_rows a.rows group }) va asked_valid
        tree_asked most
        (mosts (record { shape = a.shape; rows = busy_rows a.rows group }) asked_valid.tree) h
        (demands_under a va group (busy_rows a.rows group) are h under)
        (λ c c_in e. later c (parent_lt a.rows va.tree c h e) c_in
        (above_parent a.rows va.tree group c h e under)))
        ∙ sym (rule h within))

    -- The guarantee is what the group has in the busy plan, or its most if that is less.
    pub told : ThereIsOnePlan → DemandsInsideOnlyCut → (ys : List ℕ) → IsPlan b ys
        → IsGuaranteed a group (min (get_or ys group 0) (get_or most group 0))
    told one cut ys is_plan =
        let next : HasOnePlan (record { shape = a.shape; rows = busy_rows a.rows group }) =
        one (record { shape = a.shape; rows = busy_rows a.rows group }) asked_valid in
        let here : get_or next.amounts group 0
        ≡ min (get_or ys group 0)
        (get_or (listed_mosts (record { shape = a.shape; rows = busy_rows a.rows group })
        asked_valid) group 0) =
        cut (record { shape = a.shape; rows = busy_rows a.rows group }) b group
        (listed_mosts (record { shape = a.shape; rows = busy_rows a.rows group }) asked_valid)
        next.amounts ys asked_valid busied.valid busier_inside
        (listed-AreMaxTotals (record { shape = a.shape; rows = busy_rows a.rows group })
        asked_valid) next.plan is_plan in
        let same : get_or (listed_mosts (record { shape = a.shape; rows = busy_rows a.rows group })
        asked_valid) group 0 ≡ get_or most group 0 =
        listed_at (record { shape = a.shape; rows = busy_rows a.rows group }) asked_valid group
        (omega (arith, below, are.alike.one_each))
        ∙ kept_most group below (is_under-self a.rows va.tree group) in
        subst (λ (x : ℕ). IsGuaranteed a group x) (here ∙ ap (min (get_or ys group 0)) same)
        (least a va group (busy_rows a.rows group) are below next.amounts next.plan)

    -- A goal that is guaranteed is met by the busy plan, and is within the most.
    pub kept_fits : ThereIsOnePlan → DemandsInsideOnlyCut → (goals : List ℕ)
        → IsKept a goals group → (ys : List ℕ) → IsPlan b ys
        → (get_or goals group 0 ≤ get_or ys group 0)
        × (get_or goals group 0 ≤ get_or most group 0)
    kept_fits one cut goals kept ys is_plan =
        let same : kept.least ≡ min (get_or ys group 0) (get_or most group 0) =
        one_guarantee a group kept.least (min (get_or ys group 0) (get_or most group 0))
        kept.guarantee (told one cut ys is_plan) in
        (omega (arith, same, kept.enough), omega (arith, same, kept.enough))

    -- A goal within the most that the busy plan meets is guaranteed.
    pub fits_kept : ThereIsOnePlan → DemandsInsideOnlyCut → (goals ys : List ℕ) → IsPlan b ys
        → get_or goals group 0 ≤ get_or ys group 0 → get_or goals group 0 ≤ get_or most group 0
        → IsKept a goals group
    fits_kept one cut goals ys is_plan reached within = record {
      least = min (get_or ys group 0) (get_or most group 0);
      guarantee = told one cut ys is_plan;
      enough = omega (arith, reached, within);
    }
