-- Which groups a list has after one change of it, and below which number their ids are.
use Rattle.std.proofs.Common.{◌≡◌, ◌≢◌, ◌⊎◌, inl, inr, ℕ, ◌<◌, ◌≤◌, Bool, true, false, cond, eqb}
use Rattle.std.proofs.Common.{List, [], ◌∷◌, ◌++◌, Option, Some, None, is_some, refl, sym, ap, ◌∙◌}
use Rattle.std.proofs.Common.{arith}
use Rattle.std.proofs.lemmas.Bool.{eq-eqb}
use Rattle.std.proofs.lemmas.Bool.Decides.{eqb_tells}
use Rattle.std.specs.Map.{set_value, remove_entry}
use Rattle.bw_tree.specs.Groups.{GroupFields, group_at, has_group, AllBefore}
use Rattle.bw_tree.specs.Snapshot.{carried}
use Rattle.bw_tree.specs.Tree.{changed, set_carry}

-- ---- which groups there are

pub has_set : (gs : List (ℕ × GroupFields)) (k : ℕ) (g : GroupFields) (id : ℕ)
    → has_group (set_value (eqb k) gs g) id ≡ has_group gs id
has_set [] k g id = refl
has_set (e ∷ es) k g id = onto (eqb k e.0) (eqb id e.0) (has_set es k g id) refl
  where
    onto : (a b : Bool) → has_group (set_value (eqb k) es g) id ≡ has_group es id → eqb id e.0 ≡ b
        → has_group (cond a ((e.0, g) ∷ es) (e ∷ set_value (eqb k) es g)) id
        ≡ has_group (e ∷ es) id
    onto true true rest at =
        ap (λ t. is_some (cond t (Some g) (group_at es id))) at
        ∙ sym (ap (λ t. is_some (cond t (Some e.1) (group_at es id))) at)
    onto true false rest at =
        ap (λ t. is_some (cond t (Some g) (group_at es id))) at
        ∙ sym (ap (λ t. is_some (cond t (Some e.1) (group_at es id))) at)
    onto false true rest at =
        ap (λ t. is_some (cond t (Some e.1) (group_at (set_value (eqb k) es g) id))) at
        ∙ sym (ap (λ t. is_some (cond t (Some e.1) (group_at es id))) at)
    onto false false rest at =
        ap (λ t. is_some (cond t (Some e.1) (group_at (set_value (eqb k) es g) id))) at ∙ rest
        ∙ sym (ap (λ t. is_some (cond t (Some e.1) (group_at es id))) at)

pub has_changed : (f : GroupFields → GroupFields) (gs : List (ℕ × GroupFields)) (k : ℕ)
    (o : Option GroupFields) (id : ℕ) → has_group (changed f gs k o) id ≡ has_group gs id
has_changed f gs k None id = refl
has_changed f gs k (Some g) id = has_set gs k (f g) id

pub has_removed : (gs : List (ℕ × GroupFields)) (k id : ℕ)
    → has_group (remove_entry (eqb k) gs) id ≡ true → has_group gs id ≡ true
has_removed [] k id h = h
has_removed (e ∷ es) k id h = onto (eqb k e.0) (eqb id e.0) refl (has_removed es k id) h
  where
    onto : (a b : Bool) → eqb id e.0 ≡ b
        → (has_group (remove_entry (eqb k) es) id ≡ true → has_group es id ≡ true)
        → has_group (cond a es (e ∷ remove_entry (eqb k) es)) id ≡ true
        → has_group (e ∷ es) id ≡ true
    onto a true at rest h = ap (λ t. is_some (cond t (Some e.1) (group_at es id))) at
    onto true false at rest h = ap (λ t. is_some (cond t (Some e.1) (group_at es id))) at ∙ h
    onto false false at rest h =
        ap (λ t. is_some (cond t (Some e.1) (group_at es id))) at
        ∙ rest (sym (ap (λ t. is_some
        (cond t (Some e.1) (group_at (remove_entry (eqb k) es) id))) at) ∙ h)

later_there : (e : ℕ × GroupFields) (es : List (ℕ × GroupFields)) (k id : ℕ) → eqb id e.0 ≡ false
    → (has_group es id ≡ true) ⊎ (id ≡ k) → (has_group (e ∷ es) id ≡ true) ⊎ (id ≡ k)
later_there e es k id at (inl there) =
    inl (ap (λ t. is_some (cond t (Some e.1) (group_at es id))) at ∙ there)
later_there e es k id at (inr same) = inr same

pub has_pushed : (gs : List (ℕ × GroupFields)) (k : ℕ) (g : GroupFields) (id : ℕ)
    → has_group (gs ++ (k, g) ∷ []) id ≡ true → (has_group gs id ≡ true) ⊎ (id ≡ k)
has_pushed [] k g id h = by (eqb_tells id k)
  where
    by : ((eqb id k ≡ true) × (id ≡ k)) ⊎ ((eqb id k ≡ false) × (id ≢ k))
        → (has_group [] id ≡ true) ⊎ (id ≡ k)
    by (inl same) = inr same.1
    by (inr apart) = inl (sym (ap (λ t. is_some (cond t (Some g) None)) apart.0) ∙ h)
has_pushed (e ∷ es) k g id h = onto (eqb id e.0) refl (has_pushed es k g id) h
  where
    onto : (b : Bool) → eqb id e.0 ≡ b
        → (has_group (es ++ (k, g) ∷ []) id ≡ true → (has_group es id ≡ true) ⊎ (id ≡ k))
        → has_group (e ∷ (es ++ (k, g) ∷ [])) id ≡ true
        → (has_group (e ∷ es) id ≡ true) ⊎ (id ≡ k)
    onto true at rest h = inl (ap (λ t. is_some (cond t (Some e.1) (group_at es id))) at)
    onto false at rest h =
        later_there e es k id at (rest (sym (ap (λ t. is_some
        (cond t (Some e.1) (group_at (es ++ (k, g) ∷ []) id))) at) ∙ h))

-- the group that was pushed is there
pub pushed_there : (gs : List (ℕ × GroupFields)) (k : ℕ) (g : GroupFields)
    → has_group (gs ++ (k, g) ∷ []) k ≡ true
pushed_there [] k g = ap (λ t. is_some (cond t (Some g) None)) (eq-eqb k k refl)
pushed_there (e ∷ es) k g = onto (eqb k e.0) (pushed_there es k g)
  where
    onto : (b : Bool) → has_group (es ++ (k, g) ∷ []) k ≡ true
        → is_some (cond b (Some e.1) (group_at (es ++ (k, g) ∷ []) k)) ≡ true
    onto true rest = refl
    onto false rest = rest

pub has_carried : (gs : List (ℕ × GroupFields)) (cs : List ℕ) (id : ℕ)
    → has_group (carried gs cs) id ≡ has_group gs id
has_carried gs [] id = refl
has_carried [] (c ∷ cs) id = refl
has_carried (e ∷ es) (c ∷ cs) id = onto (eqb id e.0) (has_carried es cs id)
  where
    onto : (b : Bool) → has_group (carried es cs) id ≡ has_group es id
        → is_some (cond b (Some (set_carry c e.1)) (group_at (carried es cs) id))
        ≡ is_some (cond b (Some e.1) (group_at es id))
    onto true rest = refl
    onto false rest = rest

-- ---- below which number their ids are

pub below_more : (n m : ℕ) (gs : List (ℕ × GroupFields)) → n ≤ m → AllBefore n gs → AllBefore m gs
below_more n m [] le all = tt
below_more n m (e ∷ es) le all =
    (let lt = all.0 in omega (arith, lt, le), below_more n m es le all.1)

pub below_set : (n : ℕ) (gs : List (ℕ × GroupFields)) (k : ℕ) (g : GroupFields) → AllBefore n gs
    → AllBefore n (set_value (eqb k) gs g)
below_set n [] k g all = tt
below_set n (e ∷ es) k g all = onto (eqb k e.0) (below_set n es k g all.1)
  where
    onto : (b : Bool) → AllBefore n (set_value (eqb k) es g)
        → AllBefore n (cond b ((e.0, g) ∷ es) (e ∷ set_value (eqb k) es g))
    onto true rest = all
    onto false rest = (all.0, rest)

pub below_changed : (n : ℕ) (f : GroupFields → GroupFields) (gs : List (ℕ × GroupFields)) (k : ℕ)
    (o : Option GroupFields) → AllBefore n gs → AllBefore n (changed f gs k o)
below_changed n f gs k None all = all
below_changed n f gs k (Some g) all = below_set n gs k (f g) all

pub below_removed : (n : ℕ) (gs : List (ℕ × GroupFields)) (k : ℕ) → AllBefore n gs
    → AllBefore n (remove_entry (eqb k) gs)
below_removed n [] k all = tt
below_removed n (e ∷ es) k all = onto (eqb k e.0) (below_removed n es k all.1)
  where
    onto : (b : Bool) → AllBefore n (remove_entry (eqb k) es)
        → AllBefore n (cond b es (e ∷ remove_entry (eqb k) es))
    onto true rest = all.1
    onto false rest = (all.0, rest)

pub below_pushed : (n : ℕ) (gs : List (ℕ × GroupFields)) (k : ℕ) (g : GroupFields)
    → AllBefore n gs → k < n → AllBefore n (gs ++ (k, g) ∷ [])
below_pushed n [] k g all lt = (lt, tt)
below_pushed n (e ∷ es) k g all lt = (all.0, below_pushed n es k g all.1 lt)

pub below_carried : (n : ℕ) (gs : List (ℕ × GroupFields)) (cs : List ℕ) → AllBefore n gs
    → AllBefore n (carried gs cs)
below_carried n gs [] all = all
below_carried n [] (c ∷ cs) all = tt
below_carried n (e ∷ es) (c ∷ cs) all = (all.0, below_carried n es cs all.1)

-- a group that is there has such an id
pub id_below : (n : ℕ) (gs : List (ℕ × GroupFields)) (id : ℕ) → AllBefore n gs
    → has_group gs id ≡ true → id < n
id_below n [] id all h = cc
id_below n (e ∷ es) id all h =
    by (eqb_tells id e.0) (λ there. id_below n es id all.1 there)
  where
    by : ((eqb id e.0 ≡ true) × (id ≡ e.0)) ⊎ ((eqb id e.0 ≡ false) × (id ≢ e.0))
        → (has_group es id ≡ true → id < n) → id < n
    by (inl same) rest = let lt = all.0 in let is = same.1 in omega (arith, lt, is)
    by (inr apart) rest =
        rest (sym (ap (λ t. is_some (cond t (Some e.1) (group_at es id))) apart.0) ∙ h)
