-- The plan goes down from the root by best splits, so each instance has one.
use Rattle.std.proofs.Common.{◌≡◌, ℕ, zero, suc, ◌<◌, ◌≤◌, List, true, cond, length, get_or, set}
use Rattle.std.proofs.Common.{replicate, refl, sym, ◌∙◌, subst, arith, inl, inr}
use Rattle.std.specs.Prelude.{sum, sum_by, slice_index, map}
use Rattle.std.specs.List.{range_with_len}
use Rattle.std.proofs.lemmas.Bool.{cases_Bool, lt-ltb, le-ltb}
use Rattle.std.proofs.lemmas.List.{length-map}
use Rattle.std.proofs.lemmas.List.Sums.{sum-map}
use Rattle.std.proofs.lemmas.List.FromFn.{length-map-range_with_len, get_or-map-range_with_len}
use Rattle.bw_model.specs.declared.row.Row.{Row}
use Rattle.bw_model.specs.Groups.{Groups, IsInstance, is_child, children_of, is_leaf, limit_of}
use Rattle.bw_model.specs.Groups.{weight_of}
use Rattle.bw_model.specs.Certificate.{sibling_place}
use Rattle.bw_model.specs.Split.{IsBestSplit}
use Rattle.bw_model.specs.Plan.{child_weights, IsPlan}
use Rattle.bw_model.specs.Demand.{want_of}
use Rattle.bw_model.proofs.CallerLemmas.{is_child_from_parent, child_at, capped, mosts}
use Rattle.bw_model.proofs.CallerLemmas.{mosts-capped, IsPlan-unique}
use Rattle.bw_plan.proofs.Existence.{best_split}
use Rattle.bw_plan.specs.Laws.{HasOnePlan}
use Rattle.bw_plan.specs.Shared.{IsShared, IsPlanning}
use Rattle.bw_plan.proofs.Shares.{begun, enough, shared_more, leaf_more, all_planned, same_done}
use Rattle.bw_plan.proofs.Shares.{rows_before, next_fresh, next_marks, before_closed}
use Rattle.bw_plan.proofs.Shares.{parent_done, map_is, weights_in_range}

-- amounts with the parts at the children of a group
written : List Row → ℕ → List ℕ → List ℕ → ℕ → ℕ
written rows g before parts i =
    cond (is_child rows g i) (get_or parts (sibling_place rows g i) 0) (get_or before i 0)

after : List Row → ℕ → List ℕ → List ℕ → List ℕ
after rows g before parts = map (written rows g before parts) (range_with_len 0 (length rows))

after_at : (rows : List Row) (g : ℕ) (before parts : List ℕ) (i : ℕ) → i < length rows
    → get_or (after rows g before parts) i 0 ≡ written rows g before parts i
unfolding after
after_at rows g before parts i below =
    get_or-map-range_with_len (written rows g before parts) 0 (length rows) i i 0 below
    (omega arith)

after-IsShared : (groups : Groups) (most before : List ℕ) (g : ℕ) (parts : List ℕ) →
    IsBestSplit (get_or before g 0) (child_weights groups.rows g)
    (map (slice_index most) (children_of groups.rows g)) parts →
    IsShared groups most g before (after groups.rows g before parts)
unfolding written
after-IsShared groups most before g parts best = record {
  one_each = unfold after in
      length-map-range_with_len (written groups.rows g before parts) 0 (length groups.rows);
  split = rw is best;
  others = λ i below no'. after_at groups.rows g before parts i below ∙ rw no' refl;
}
  where
    cs : List ℕ
    cs = children_of groups.rows g

    is : map (slice_index (after groups.rows g before parts)) (children_of groups.rows g) ≡ parts
    is = map_is (slice_index (after groups.rows g before parts)) (children_of groups.rows g) parts
        (best.split.lengths ∙ length-map (children_of groups.rows g) (slice_index most))
        (λ k below.
        let c = child_at groups.rows g k below in
        after_at groups.rows g before parts (get_or (children_of groups.rows g) k 0) c.within
        ∙ rw (
          is_child_from_parent groups.rows g (get_or (children_of groups.rows g) k 0) c.parent,
          c.place,
        ) refl)

-- There is a plan that goes down by best splits, so the plan does.
module _ (groups : Groups) (valid : IsInstance groups) (most : List ℕ)
    (rule : (g : ℕ) → g < length groups.rows
    → get_or most g 0 ≡ capped (limit_of groups g) (want_of groups most g)) where
  planned_to : (g : ℕ) → g ≤ length groups.rows
      → (amounts : List ℕ) × IsPlanning groups most (rows_before g) amounts
  planned_to zero le = (
    set (replicate {A = ℕ} (length groups.rows) 0) 0 (get_or most 0 0),
    begun groups valid most rule (rows_before 0) (λ h _. le-ltb h 0 (omega arith))
        (length groups.rows) (get_or most 0 0)
        (set (replicate {A = ℕ} (length groups.rows) 0) 0 (get_or most 0 0)) refl refl refl,
  )
  planned_to (suc g) le =
      let so_far : (amounts : List ℕ) × IsPlanning groups most (rows_before g) amounts =
      planned_to g (omega arith) in
      next so_far.0 so_far.1
    where
      next : (amounts : List ℕ) → IsPlanning groups most (rows_before g) amounts
          → (amounts : List ℕ) × IsPlanning groups most (rows_before (suc g)) amounts
      next amounts so_far = elim (cases_Bool (is_leaf groups.rows g)) [
        | inl leaf ↦ (
          amounts,
          leaf_more groups valid most rule (rows_before g) (rows_before (suc g)) g (omega arith)
              (next_fresh groups valid.tree g)
              (next_marks groups valid.tree g) (before_closed groups valid.tree g) amounts leaf
              so_far,
        )
        | inr inner ↦
            let cs : List ℕ = children_of groups.rows g in
            let most_sum : sum (map (slice_index most) cs) ≡ sum_by (slice_index most) cs =
            sum-map (slice_index most) cs in
            let fits : get_or amounts g 0 ≤ sum_by (slice_index most) cs =
            enough groups valid most rule (rows_before g) g amounts (omega arith) inner so_far
            (parent_done groups valid.tree g) in
            let found : (parts : List ℕ) × IsBestSplit (get_or amounts g 0)
            (child_weights groups.rows g) (map (slice_index most) cs) parts =
            best_split (child_weights groups.rows g) (map (slice_index most) cs)
            (length-map cs (weight_of groups.rows) ∙ sym (length-map cs (slice_index most)))
            (λ k below. let w = weights_in_range groups valid g k below in omega (arith, w.0))
            (get_or amounts g 0) (omega (arith, most_sum, fits)) in (
              after groups.rows g amounts found.0,
              shared_more groups valid most rule (rows_before g) (rows_before (suc g)) g
                  (omega arith) (next_fresh groups valid.tree g)
                  (next_marks groups valid.tree g) (before_closed groups valid.tree g) amounts
                  (after groups.rows g amounts found.0) so_far
                  (after-IsShared groups most amounts g found.0 found.1),
            )
      ]

  all_before : (h : ℕ) → h < length groups.rows → rows_before (length groups.rows) h ≡ true
  all_before h below = lt-ltb h (length groups.rows) below

  -- The plan goes down by best splits.
  pub plan-IsPlanning : (amounts : List ℕ) → IsPlan groups amounts
      → IsPlanning groups most (λ _. true) amounts
  plan-IsPlanning amounts is_plan =
      let other : (amounts : List ℕ) × IsPlanning groups most (rows_before (length groups.rows))
      amounts = planned_to (length groups.rows) (omega arith) in
      let other_plan : IsPlan groups other.0 =
      all_planned groups valid most rule (rows_before (length groups.rows)) other.0
      (λ h below _. all_before h below) other.1 in
      let same : other.0 ≡ amounts =
      IsPlan-unique groups other.0 amounts valid.tree other_plan is_plan in
      subst (λ (xs : List ℕ). IsPlanning groups most (λ _. true) xs) same
      (same_done groups valid most rule (rows_before (length groups.rows)) (λ _. true) other.0
      (λ h below. sym (all_before h below)) other.1)

-- Each instance has one plan.
pub one_plan : (groups : Groups) → IsInstance groups → HasOnePlan groups
one_plan groups valid =
    let found : (amounts : List ℕ)
    × IsPlanning groups (mosts groups valid.tree) (rows_before (length groups.rows)) amounts =
    planned_to groups valid (mosts groups valid.tree) (mosts-capped groups valid.tree)
    (length groups.rows) (omega arith) in
    let is_plan : IsPlan groups found.0 =
    all_planned groups valid (mosts groups valid.tree) (mosts-capped groups valid.tree)
    (rows_before (length groups.rows)) found.0
    (λ h below _. lt-ltb h (length groups.rows) below) found.1 in
    record {
      amounts = found.0;
      plan = is_plan;
      alone = λ others other. IsPlan-unique groups others found.0 valid.tree other is_plan;
    }
