-- How many children each group has.
use Rattle.std.proofs.Common.{◌≡◌, ℕ, suc, ◌≤◌, Bool, true, false, cond, ◌||◌, List, [], ◌∷◌}
use Rattle.std.proofs.Common.{◌++◌, length, Some, refl, sym, ap, ◌∙◌, eqb, ltb, arith}
use Rattle.std.proofs.lemmas.Bool.{lt-ltb}
use Rattle.std.specs.Map.{remove_entry, set_value}
use Rattle.bw_tree.specs.Groups.{GroupFields, group_at, has_children, is_parent, children_count}
use Rattle.bw_model.proofs.CallerLemmas.{inside}

-- the count is above 0 where there are children
pub count_has : (gs : List (ℕ × GroupFields)) (p : ℕ)
    → ltb 0 (children_count gs p) ≡ has_children gs p
count_has [] p = refl
count_has (e ∷ es) p = onto (is_parent e.1.parent p) (count_has es p)
  where
    onto : (b : Bool) → ltb 0 (children_count es p) ≡ has_children es p
        → ltb 0 (cond b (suc (children_count es p)) (children_count es p))
        ≡ (b || has_children es p)
    onto true h = lt-ltb 0 (suc (children_count es p)) (omega arith)
    onto false h = h

-- two groups are counted in either order
grouped : (b d : Bool) (x y : ℕ) → x ≡ cond d (suc y) y
    → cond b (suc x) x ≡ cond d (suc (cond b (suc y) y)) (cond b (suc y) y)
grouped true true x y h = ap suc h
grouped true false x y h = ap suc h
grouped false true x y h = h
grouped false false x y h = h

-- one group more
pub count_push : (gs : List (ℕ × GroupFields)) (k p : ℕ) (g : GroupFields)
    → children_count (gs ++ (k, g) ∷ []) p
    ≡ cond (is_parent g.parent p) (suc (children_count gs p)) (children_count gs p)
count_push [] k p g = refl
count_push (e ∷ es) k p g =
    grouped (is_parent e.1.parent p) (is_parent g.parent p) _ _ (count_push es k p g)

-- one group less
pub count_removed : (id : ℕ) (g : GroupFields) (gs : List (ℕ × GroupFields)) (p : ℕ)
    → group_at gs id ≡ Some g
    → children_count gs p
    ≡ cond (is_parent g.parent p) (suc (children_count (remove_entry (eqb id) gs) p))
    (children_count (remove_entry (eqb id) gs) p)
count_removed id g [] p at = cc
count_removed id g (e ∷ es) p at = onto (eqb id e.0) at (count_removed id g es p)
  where
    onto : (b : Bool) → cond b (Some e.1) (group_at es id) ≡ Some g
        → (group_at es id ≡ Some g → children_count es p
        ≡ cond (is_parent g.parent p) (suc (children_count (remove_entry (eqb id) es) p))
        (children_count (remove_entry (eqb id) es) p))
        → cond (is_parent e.1.parent p) (suc (children_count es p)) (children_count es p)
        ≡ cond (is_parent g.parent p)
        (suc (children_count (cond b es (e ∷ remove_entry (eqb id) es)) p))
        (children_count (cond b es (e ∷ remove_entry (eqb id) es)) p)
    onto true at rest =
        ap (λ (x : GroupFields). cond (is_parent x.parent p) (suc (children_count es p))
        (children_count es p)) (inside {a = e.1} {b = g} at)
    onto false at rest = grouped (is_parent e.1.parent p) (is_parent g.parent p) _ _ (rest at)

-- another group in its place, with the same parent
pub count_set : (id : ℕ) (g old : GroupFields) → g.parent ≡ old.parent
    → (gs : List (ℕ × GroupFields)) (p : ℕ) → group_at gs id ≡ Some old
    → children_count (set_value (eqb id) gs g) p ≡ children_count gs p
count_set id g old same [] p at = refl
count_set id g old same (e ∷ es) p at = onto (eqb id e.0) at (count_set id g old same es p)
  where
    onto : (b : Bool) → cond b (Some e.1) (group_at es id) ≡ Some old
        → (group_at es id ≡ Some old → children_count (set_value (eqb id) es g) p
        ≡ children_count es p)
        → children_count (cond b ((e.0, g) ∷ es) (e ∷ set_value (eqb id) es g)) p
        ≡ cond (is_parent e.1.parent p) (suc (children_count es p)) (children_count es p)
    onto true at rest =
        ap (λ o. cond (is_parent o p) (suc (children_count es p)) (children_count es p))
        (same ∙ ap (λ (x : GroupFields). x.parent) (sym (inside {a = e.1} {b = old} at)))
    onto false at rest = ap (λ n. cond (is_parent e.1.parent p) (suc n) n) (rest at)

pub count_le : (gs : List (ℕ × GroupFields)) (p : ℕ) → children_count gs p ≤ length gs
count_le [] p = omega arith
count_le (e ∷ es) p = onto (is_parent e.1.parent p) (count_le es p)
  where
    onto : (b : Bool) → children_count es p ≤ length es
        → cond b (suc (children_count es p)) (children_count es p) ≤ suc (length es)
    onto true le = omega (arith, le)
    onto false le = omega (arith, le)
