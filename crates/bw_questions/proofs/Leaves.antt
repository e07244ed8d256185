-- The total of a leaf, and totals of allocations that are no greater at each leaf.
use Rattle.std.proofs.Common.{◌≡◌, ℕ, ◌+◌, ◌<◌, ◌≤◌, List, true, false, ◌&&◌, cond, None, Some}
use Rattle.std.proofs.Common.{length, get_or, refl, ap, sym, ◌∙◌, arith, inl, inr}
use Rattle.std.proofs.lemmas.Bool.{cases_eq, cases_lt, cases_Bool, ne_eqb, both_ways}
use Rattle.std.proofs.lemmas.List.{get_or_past}
use Rattle.bw_model.specs.declared.row.Row.{Row}
use Rattle.bw_model.specs.Groups.{Groups, IsInstance, AreTreeRows, no_row, parent_of, is_leaf}
use Rattle.bw_model.specs.Groups.{is_under, limit_of, demand_of}
use Rattle.bw_model.specs.Allocation.{total}
use Rattle.bw_model.specs.Demand.{want_of}
use Rattle.bw_model.specs.Plan.{IsPlan}
use Rattle.bw_model.proofs.CallerLemmas.{strong, sum_below, sum_below-le, sum_below-change}
use Rattle.bw_model.proofs.CallerLemmas.{sum_below-zero, total-sum, leaf_no_child}
use Rattle.bw_model.proofs.CallerLemmas.{is_child_from_parent, is_under-top, is_under-step}
use Rattle.bw_model.proofs.CallerLemmas.{is_under-self, and_no, mosts, mosts-capped, parent_lt}
use Rattle.bw_model.proofs.CallerLemmas.{most_le_limit, most_le_want}
use Rattle.bw_questions.proofs.changes.Lacking.{within_most}

module _ (rows : List Row) (tree : AreTreeRows rows) where
  parent_within : (k p : ℕ) → parent_of rows k ≡ Some p → k < length rows
  parent_within k p e = elim (cases_lt k (length rows)) [
    | inl within ↦ within
    | inr past ↦ absurd
        (let clash : None ≡ Some p =
        sym (ap (λ (r : Row). r.parent) (get_or_past rows k no_row past)) ∙ e in cc)
  ]

  -- Nothing else is under a leaf.
  pub alone : (g : ℕ) → is_leaf rows g ≡ true → (k : ℕ) → (k ≡ g → ⊥) → is_under rows g k ≡ false
  alone g leaf = strong (λ k. (k ≡ g → ⊥) → is_under rows g k ≡ false) (λ k before other.
      (elim (parent_of rows k) as (λ o. parent_of rows k ≡ o → is_under rows g k ≡ false) [
        | None ↦ λ e. is_under-top rows tree g k e ∙ ne_eqb k g other
        | Some p ↦ λ e. elim (cases_eq p g) [
          | inl same ↦ absurd
              (both_ways _
              (leaf_no_child rows g k leaf (parent_within k p e))
              (is_child_from_parent rows g k (e ∙ ap (λ (q : ℕ). Some q) same)))
          | inr apart ↦
              is_under-step rows tree g k p e
              ∙ rw (ne_eqb k g other, before p (parent_lt rows tree k p e) apart) refl
        ]
      ]) refl)

  -- The total of a leaf is what it is given.
  pub leaf_total : (a : List ℕ) (g : ℕ) → g < length rows → is_leaf rows g ≡ true
      → total rows a g ≡ get_or a g 0
  leaf_total a g below leaf =
      let zeros : sum_below (length rows) (λ _. 0) ≡ 0 =
      sum_below-zero (length rows) (λ _. 0) (λ k k_in. refl) in
      let change : sum_below (length rows)
      (λ l. cond (is_leaf rows l && is_under rows g l) (get_or a l 0) 0) + 0
      ≡ sum_below (length rows) (λ _. 0)
      + cond (is_leaf rows g && is_under rows g g) (get_or a g 0) 0 =
      sum_below-change (length rows) g (λ _. 0)
      (λ l. cond (is_leaf rows l && is_under rows g l) (get_or a l 0) 0) below
      (λ l other. rw (alone g leaf l other, and_no (is_leaf rows l)) refl) in
      let here : cond (is_leaf rows g && is_under rows g g) (get_or a g 0) 0 ≡ get_or a g 0 =
      rw (leaf, is_under-self rows tree g) refl in
      omega (arith, total-sum rows a g, change, zeros, here)

-- An allocation that is no greater at each leaf has no greater totals.
pub totals_less : (rows : List Row) (a b : List ℕ) (g : ℕ)
    → ((l : ℕ) → l < length rows → is_leaf rows l ≡ true → get_or a l 0 ≤ get_or b l 0)
    → total rows a g ≤ total rows b g
totals_less rows a b g less =
    rw (total-sum rows a g, total-sum rows b g)
    (sum_below-le (length rows)
    (λ l. cond (is_leaf rows l && is_under rows g l) (get_or a l 0) 0)
    (λ l. cond (is_leaf rows l && is_under rows g l) (get_or b l 0) 0)
    (λ l below. elim (cases_Bool (is_leaf rows l)) [
      | inr inner ↦ rw inner (omega arith)
      | inl leaf ↦ elim (cases_Bool (is_under rows g l)) [
        | inr out ↦ rw (leaf, out) (omega arith)
        | inl under ↦ rw (leaf, under) (less l below leaf)
      ]
    ]))

module _ (groups : Groups) (valid : IsInstance groups) (amounts : List ℕ)
    (is_plan : IsPlan groups amounts) where
  -- No group has more than its limit, and no leaf more than it asks for.
  pub within_limit : (g limit : ℕ) → g < length groups.rows → limit_of groups g ≡ Some limit
      → get_or amounts g 0 ≤ limit
  within_limit g limit below e =
      omega (
        arith,
        within_most groups valid amounts is_plan g below,
        most_le_limit groups valid.tree (mosts groups valid.tree) (mosts-capped groups valid.tree)
            g limit below e,
      )

  pub within_demand : (l : ℕ) → l < length groups.rows → is_leaf groups.rows l ≡ true
      → get_or amounts l 0 ≤ demand_of groups.rows l
  within_demand l below leaf =
      let want : want_of groups (mosts groups valid.tree) l ≡ demand_of groups.rows l =
      rw leaf refl in
      omega (
        arith,
        within_most groups valid amounts is_plan l below,
        most_le_want groups valid.tree (mosts groups valid.tree) (mosts-capped groups valid.tree)
            l below,
        want,
      )
