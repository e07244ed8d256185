-- What drained workers draw of a plan is within the limits.
use Rattle.std.proofs.Common.{◌≡◌, ℕ, zero, suc, ◌<◌, ◌≤◌, Bool, true, false, cond, List, length}
use Rattle.std.proofs.Common.{get_or, Option, Some, None, refl, sym, ap, subst, ◌∙◌, arith}
use Rattle.std.proofs.Common.{zero-add}
use Rattle.std.specs.Prelude.{IfSome}
use Rattle.std.proofs.lemmas.List.FromFn.{get_or-map-range_with_len}
use Rattle.bw_model.specs.declared.row.Row.{Row}
use Rattle.bw_model.specs.Groups.{Groups, IsInstance, row_of, is_leaf, is_child}
use Rattle.bw_model.specs.Allocation.{total}
use Rattle.bw_model.specs.Plan.{IsPlan}
use Rattle.bw_model.proofs.CallerLemmas.{sum_of_children-below, parent_from_is_child, from_the_last}
use Rattle.bw_model.proofs.CallerLemmas.{parent_lt, sum_below-le}
use Rattle.bw_pool.specs.Drained.{IsDrawnOut}
use Rattle.bw_pool.proofs.CallerLemmas.{plan_is_planned}
use Rattle.bw_tree.specs.Snapshot.{IsDrawnWithin}

module _ (groups : Groups) (amounts : List ℕ) (known : IsInstance groups)
    (plan : IsPlan groups amounts) (uses : ℕ → Bool) (drawn : List ℕ)
    (out : IsDrawnOut uses groups.rows amounts drawn) where
  abbrev rows : List Row
  rows = groups.rows

  amount_is : (g : ℕ) → g < length rows → get_or amounts g 0 ≡ total rows plan.allocation g
  amount_is g lt = ap (λ xs. get_or xs g 0) plan.amounts_are
      ∙ get_or-map-range_with_len (total rows plan.allocation) 0 (length rows) g g 0 lt (zero-add g)

  -- no more than the plan at each group
  at_most : (g : ℕ) → g < length rows → get_or drawn g 0 ≤ get_or amounts g 0
  at_most = from_the_last (length rows) (λ g. get_or drawn g 0 ≤ get_or amounts g 0)
      (λ g lt later. by_kind g lt later (is_leaf rows g) refl (uses g) refl)
    where
      child_at_most : (g c : ℕ) → (g < c → get_or drawn c 0 ≤ get_or amounts c 0) → (b : Bool)
          → is_child rows g c ≡ b
          → cond b (get_or drawn c 0) 0 ≤ cond b (get_or amounts c 0) 0
      child_at_most g c later true is =
          later (parent_lt rows known.tree c g (parent_from_is_child rows g c is))
      child_at_most g c later false is = omega arith

      by_kind : (g : ℕ) → g < length rows
          → ((c : ℕ) → g < c → c < length rows → get_or drawn c 0 ≤ get_or amounts c 0)
          → (leaf : Bool) → is_leaf rows g ≡ leaf → (used : Bool) → uses g ≡ used
          → get_or drawn g 0 ≤ get_or amounts g 0
      by_kind g lt later true leaf true used = omega (arith, out.used g lt leaf used)
      by_kind g lt later true leaf false used = omega (arith, out.unused g lt leaf used)
      by_kind g lt later false leaf used is =
          let sums = sum_below-le (length rows) (λ c. cond (is_child rows g c) (get_or drawn c 0) 0)
          (λ c. cond (is_child rows g c) (get_or amounts c 0) 0)
          (λ c below. child_at_most g c (λ after. later c after below) (is_child rows g c) refl) in
          omega (
            arith,
            sums,
            sum_of_children-below rows drawn g,
            sum_of_children-below rows amounts g,
            out.inner g lt leaf,
            (plan_is_planned groups amounts known plan).inner g lt leaf,
          )

  pub drawn_within : IsDrawnWithin rows drawn
  drawn_within zero lt =
      subst (λ o. IfSome o (λ limit. get_or drawn 0 0 ≤ limit)) (sym known.root_unlimited) tt
  drawn_within (suc g) lt = by (row_of rows (suc g)).limit refl
    where
      by : (o : Option ℕ) → (row_of rows (suc g)).limit ≡ o
          → IfSome o (λ limit. get_or drawn (suc g) 0 ≤ limit)
      by None is = tt
      by (Some limit) is = let top = plan.best.within.limits (suc g) limit lt is in
          omega (arith, at_most (suc g) lt, amount_is (suc g) lt, top)
