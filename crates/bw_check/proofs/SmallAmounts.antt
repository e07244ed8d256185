-- Amounts within limits whose sums are whole are so small that their marks fit in.
use Rattle.std.proofs.Common.{◌≡◌, ℕ, zero, suc, ◌<◌, ◌≤◌, List, true, false, length, get_or, refl}
use Rattle.std.proofs.Common.{sym, ◌∙◌, arith, inl, inr}
use Rattle.std.proofs.lemmas.Bool.{cases_Bool, cases_lt}
use Rattle.std.proofs.lemmas.List.{get_or_past}
use Rattle.bw_model.specs.declared.limits.TheConstants.{MAX_CAPACITY}
use Rattle.bw_model.specs.Groups.{Groups, IsInstance, is_leaf}
use Rattle.bw_model.specs.Host.{capacity_of}
use Rattle.bw_check.specs.Levels.{AreSmall}
use Rattle.bw_check.specs.Verdict.{IsWithinLimit, IsChildrenSum}
use Rattle.bw_model.proofs.CallerLemmas.{capacity_le, child_le_sum, leaf_no_child}
use Rattle.bw_model.proofs.CallerLemmas.{is_child_from_parent, strong}

module _ (groups : Groups) (amounts : List ℕ) (valid : IsInstance groups)
    (each : length amounts ≡ length groups.rows)
    (limited : (g : ℕ) → g < length groups.rows → IsWithinLimit groups amounts g)
    (summed : (g : ℕ) → g < length groups.rows → IsChildrenSum groups.rows amounts g) where
  small_below : (g : ℕ) → ((p : ℕ) → p < g → get_or amounts p 0 ≤ MAX_CAPACITY)
      → g < length groups.rows → get_or amounts g 0 ≤ MAX_CAPACITY
  small_below zero earlier within =
      omega (
        arith,
        limited 0 within (capacity_of groups.shape) refl,
        capacity_le groups.shape valid.host,
      )
  small_below (suc g) earlier within =
      let parent = valid.tree.parent_before (suc g) (omega arith) within in
      let p = parent.0 in
      let inner : is_leaf groups.rows p ≡ false = elim (cases_Bool (is_leaf groups.rows p)) [
        | inl leaf ↦ absurd (let clash : true ≡ false =
            sym (is_child_from_parent groups.rows p (suc g) parent.1)
            ∙ leaf_no_child groups.rows p (suc g) leaf within in cc)
        | inr inner ↦ inner
      ] in
      omega (
        arith,
        child_le_sum groups.rows amounts p (suc g) parent.1,
        summed p (omega (arith, parent.2)) inner,
        earlier p parent.2,
      )

  -- each amount is at most its parent's, and so on up to the capacity
  pub small_amounts : AreSmall amounts
  small_amounts = strong (λ g. get_or amounts g 0 ≤ MAX_CAPACITY)
      (λ g earlier. elim (cases_lt g (length groups.rows)) [
        | inl within ↦ small_below g earlier within
        | inr past ↦ let none : get_or amounts g 0
            ≡ 0 = get_or_past amounts g 0 (omega (arith, past, each)) in omega (arith, none)
      ])
