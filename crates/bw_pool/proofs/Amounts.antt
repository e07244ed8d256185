-- A plan's amounts add up, and drained workers leave one list of drawn amounts.
use Rattle.std.proofs.Common.{◌≡◌, ℕ, suc, ◌<◌, List, [], ◌∷◌, length, Bool, true, false, cond}
use Rattle.std.proofs.Common.{get_or, refl, sym, ap, ◌∙◌, arith, zero-add}
use Rattle.std.proofs.lemmas.List.FromFn.{get_or-map-range_with_len, length-map-range_with_len}
use Rattle.bw_model.specs.declared.row.Row.{Row}
use Rattle.bw_model.specs.Groups.{Groups, IsInstance, AreTreeRows, is_leaf, is_child}
use Rattle.bw_model.specs.Groups.{sum_of_children}
use Rattle.bw_model.specs.Host.{slices_per_processor, capacity_of}
use Rattle.bw_model.specs.Allocation.{total}
use Rattle.bw_model.specs.Plan.{IsPlan}
use Rattle.bw_model.proofs.CallerLemmas.{sum_of_children-below, sum_by-children, total-inner}
use Rattle.bw_model.proofs.CallerLemmas.{parent_from_is_child, from_the_last, parent_lt}
use Rattle.bw_model.proofs.CallerLemmas.{sum_below-ap}
use Rattle.bw_pool.specs.Drained.{IsPlanned, IsDrawnOut, DrainedWorkersDrawThePlan}
use Rattle.bw_pool.proofs.Drained.{drained_workers_draw_the_amounts}

-- lists that agree at each place are one
same_lists : (xs ys : List ℕ) → length xs ≡ length ys
    → ((g : ℕ) → g < length xs → get_or xs g 0 ≡ get_or ys g 0) → xs ≡ ys
same_lists [] [] long same = refl
same_lists [] (y ∷ ys) long same = absurd (omega arith)
same_lists (x ∷ xs) [] long same = absurd (omega arith)
same_lists (x ∷ xs) (y ∷ ys) long same =
    let first : x ≡ y = same 0 (omega arith) in
    let rest = same_lists xs ys (omega arith) (λ g lt. same (suc g) (omega arith)) in
    ap (λ z. z ∷ xs) first ∙ ap (λ zs. y ∷ zs) rest

module _ (rows : List Row) (tree : AreTreeRows rows) (xs ys : List ℕ) where
  -- sums over children agree where all later rows do
  sums_agree : (g : ℕ) → ((c : ℕ) → g < c → c < length rows → get_or xs c 0 ≡ get_or ys c 0)
      → sum_of_children rows xs g ≡ sum_of_children rows ys g
  sums_agree g later =
      sum_of_children-below rows xs g
      ∙ (sum_below-ap (length rows) (λ c. cond (is_child rows g c) (get_or xs c 0) 0)
      (λ c. cond (is_child rows g c) (get_or ys c 0) 0)
      (λ c lt. child_agrees c lt (is_child rows g c) refl)
      ∙ sym (sum_of_children-below rows ys g))
    where
      child_agrees : (c : ℕ) → c < length rows → (b : Bool) → is_child rows g c ≡ b
          → cond b (get_or xs c 0) 0 ≡ cond b (get_or ys c 0) 0
      child_agrees c lt true is =
          later c (parent_lt rows tree c g (parent_from_is_child rows g c is)) lt
      child_agrees c lt false is = refl

pub one_drawn_list : (uses : ℕ → Bool) (rows : List Row) (amounts one other : List ℕ)
    → AreTreeRows rows → IsDrawnOut uses rows amounts one →
    IsDrawnOut uses rows amounts other → one ≡ other
one_drawn_list uses rows amounts one other tree p q =
    same_lists one other (p.one_each ∙ sym q.one_each) (λ g lt. agree g (omega (arith, p.one_each)))
  where
    agree : (g : ℕ) → g < length rows → get_or one g 0 ≡ get_or other g 0
    agree = from_the_last (length rows) (λ g. get_or one g 0 ≡ get_or other g 0)
        (λ g lt later. by_kind g lt later (is_leaf rows g) refl (uses g) refl)
      where
        by_kind : (g : ℕ) → g < length rows
            → ((c : ℕ) → g < c → c < length rows → get_or one c 0 ≡ get_or other c 0)
            → (leaf : Bool) → is_leaf rows g ≡ leaf → (used : Bool) → uses g ≡ used
            → get_or one g 0 ≡ get_or other g 0
        by_kind g lt later true leaf true used = p.used g lt leaf used ∙ sym (q.used g lt leaf used)
        by_kind g lt later true leaf false used =
            p.unused g lt leaf used ∙ sym (q.unused g lt leaf used)
        by_kind g lt later false leaf used is =
            p.inner g lt leaf ∙ (sums_agree rows tree one other g later ∙ sym (q.inner g lt leaf))

module _ (groups : Groups) (amounts : List ℕ) (known : IsInstance groups)
    (plan : IsPlan groups amounts) where
  abbrev rows : List Row
  rows = groups.rows

  amount_is : (g : ℕ) → g < length rows → get_or amounts g 0 ≡ total rows plan.allocation g
  amount_is g lt = ap (λ xs. get_or xs g 0) plan.amounts_are
      ∙ get_or-map-range_with_len (total rows plan.allocation) 0 (length rows) g g 0 lt (zero-add g)

  children_add_up : (g : ℕ) → g < length rows → is_leaf rows g ≡ false
      → sum_of_children rows amounts g ≡ get_or amounts g 0
  children_add_up g lt inner =
      sum_of_children-below rows amounts g
      ∙ (sum_below-ap (length rows) (λ c. cond (is_child rows g c) (get_or amounts c 0) 0)
      (λ c. cond (is_child rows g c) (total rows plan.allocation c) 0)
      (λ c below. ap (λ n. cond (is_child rows g c) n 0) (amount_is c below))
      ∙ (sym (sum_by-children rows (total rows plan.allocation) g)
      ∙ (sym (total-inner rows known.tree plan.allocation g inner) ∙ sym (amount_is g lt))))

  pub plan_is_planned
      : IsPlanned groups.shape.processors (slices_per_processor groups.shape) rows amounts
  plan_is_planned = record {
    tree = known.tree;
    one_each = ap length plan.amounts_are
        ∙ length-map-range_with_len (total rows plan.allocation) 0 (length rows);
    inner = children_add_up;
    root =
        let top = plan.best.within.limits 0 (capacity_of groups.shape) known.tree.has_root refl in
        omega (arith, amount_is 0 known.tree.has_root, top);
  }

pub drained_workers_draw_the_plan : DrainedWorkersDrawThePlan
drained_workers_draw_the_plan uses groups amounts history known plan legal drained =
    drained_workers_draw_the_amounts uses groups.shape.processors
    (slices_per_processor groups.shape) groups.rows amounts history
    (plan_is_planned groups amounts known plan) legal drained
