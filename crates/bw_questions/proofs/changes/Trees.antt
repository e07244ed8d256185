-- Two instances of one tree: their children, their mosts and their plans, group by group.
use Rattle.std.proofs.Common.{◌≡◌, ℕ, zero, suc, ◌+◌, ◌<◌, ◌≤◌, List, [], ◌∷◌, Bool, cond, ◌||◌}
use Rattle.std.proofs.Common.{true, false, None, Some, length, get_or, refl, ap, sym, ◌∙◌}
use Rattle.std.proofs.Common.{arith, inl, inr, eqb, subst}
use Rattle.std.specs.Prelude.{not}
use Rattle.std.specs.Prelude.{filter, map, sum, sum_by, slice_index}
use Rattle.std.specs.List.{range_with_len}
use Rattle.std.specs.Option.{option_map_or}
use Rattle.std.proofs.lemmas.Bool.{cases_eq, eqb-true, or_cases, or_right}
use Rattle.std.proofs.lemmas.List.{length-map}
use Rattle.std.proofs.lemmas.List.Sums.{sum-map}
use Rattle.bw_model.specs.declared.row.Row.{Row}
use Rattle.bw_model.specs.Groups.{Groups, IsInstance, AreTreeRows, parent_of, is_child, children_of}
use Rattle.bw_model.specs.Groups.{is_leaf, weight_of, demand_of, limit_of, row_of, is_under}
use Rattle.bw_model.specs.Groups.{depth_of}
use Rattle.bw_model.specs.Demand.{want_of}
use Rattle.bw_model.specs.Plan.{IsPlan, child_weights}
use Rattle.bw_model.specs.Split.{IsBestSplit}
use Rattle.bw_model.proofs.CallerLemmas.{strong, same_map, get_or-map, listed_child, child_at}
use Rattle.bw_model.proofs.CallerLemmas.{parent_not_leaf, parent_lt, is_under-step, is_under-top}
use Rattle.bw_model.proofs.CallerLemmas.{IsBestSplit-unique, any-ap, depth_of-top, depth_of-step}
use Rattle.bw_model.proofs.CallerLemmas.{mosts, mosts-capped}
use Rattle.bw_plan.specs.Shared.{IsPlanning}
use Rattle.bw_plan.proofs.CallerLemmas.{weights_in_range, plan-IsPlanning}
use Rattle.bw_questions.specs.changes.OneSplit.{AreWeighted}
use Rattle.bw_questions.specs.changes.Tree.{IsSameTree, IsNotBelow}

-- Below the root the limit of a group is that of its row.
pub limit_below : (groups : Groups) (group : ℕ) → 0 < group
    → limit_of groups group ≡ (row_of groups.rows group).limit
limit_below groups zero deeper = absurd (omega (arith, deeper))
limit_below groups (suc group) deeper = refl

-- A filter by an equal test gives the same list.
filter-ap : (p q : ℕ → Bool) (xs : List ℕ) → ((x : ℕ) → p x ≡ q x) → filter p xs ≡ filter q xs
filter-ap p q [] e = refl
filter-ap p q (x ∷ xs) e =
    rw (e x) (ap (λ rest. cond (q x) (x ∷ rest) rest) (filter-ap p q xs e))

pub children_same : (rows others : List Row) → IsSameTree rows others → (g : ℕ)
    → children_of others g ≡ children_of rows g
unfolding children_of
children_same rows others tree g =
    rw tree.as_many
    (filter-ap (is_child others g) (is_child rows g) (range_with_len 0 (length rows))
    (λ c. ap (λ o. option_map_or (λ p. eqb p g) o false) (tree.parents c)))

pub leaf_same : (rows others : List Row) → IsSameTree rows others → (g : ℕ)
    → is_leaf others g ≡ is_leaf rows g
unfolding is_leaf
leaf_same rows others tree g =
    rw tree.as_many
    (ap not (any-ap (is_child others g) (is_child rows g) (range_with_len 0 (length rows))
    (λ c. ap (λ o. option_map_or (λ p. eqb p g) o false) (tree.parents c))))

-- numbers of the children of a group, where they agree at each child
pub at_children : (rows : List Row) (f h : ℕ → ℕ) (g : ℕ)
    → ((c : ℕ) → c < length rows → parent_of rows c ≡ Some g → f c ≡ h c)
    → map f (children_of rows g) ≡ map h (children_of rows g)
at_children rows f h g e = same_map f h (children_of rows g)
    (λ k below. e (get_or (children_of rows g) k 0) (child_at rows g k below).within
    (child_at rows g k below).parent)

-- The weights of a group's children fit their mosts.
pub weighted : (groups : Groups) → IsInstance groups → (most : List ℕ) (g : ℕ) →
    AreWeighted (child_weights groups.rows g) (map (slice_index most) (children_of groups.rows g))
weighted groups valid most g = record {
  one_each = length-map (children_of groups.rows g) (weight_of groups.rows)
      ∙ sym (length-map (children_of groups.rows g) (slice_index most));
  positive = λ k below. let w = weights_in_range groups valid g k below in omega (arith, w.0);
}

-- A plan shares out each group's most.
pub planned : (groups : Groups) (valid : IsInstance groups) (amounts : List ℕ)
    → IsPlan groups amounts → IsPlanning groups (mosts groups valid.tree) (λ _. true) amounts
planned groups valid amounts is_plan =
    plan-IsPlanning groups valid (mosts groups valid.tree) (mosts-capped groups valid.tree) amounts
    is_plan

-- The number at a child's place among its siblings.
pub at_place : (rows : List Row) (values : List ℕ) (g k c : ℕ) → k < length (children_of rows g)
    → get_or (children_of rows g) k 0 ≡ c
    → get_or (map (slice_index values) (children_of rows g)) k 0 ≡ get_or values c 0
at_place rows values g k c below here =
    get_or-map (slice_index values) (children_of rows g) k below
    ∙ ap (slice_index values) here

-- What holds of the root, and of a group where it holds of its parent, holds of each group.
pub from_the_root : (rows : List Row) → AreTreeRows rows → (P : ℕ → Type 0) → P 0
    → ((h p : ℕ) → h < length rows → parent_of rows h ≡ Some p → P p → P h)
    → (h : ℕ) → h < length rows → P h
from_the_root rows tree P root step = strong (λ h. h < length rows → P h)
    (λ h before below. elim (cases_eq h 0) [
      | inl top ↦ subst P (sym top) root
      | inr deeper ↦
          let known : (p : ℕ) × (parent_of rows h ≡ Some p) × (p < h) =
          tree.parent_before h (omega (arith, deeper)) below in
          step h known.0 below known.1 (before known.0 known.2 (omega (arith, known.2, below)))
    ])

-- The groups that are not below one group: a parent of one, and a child of one.
module _ (rows : List Row) (tree : AreTreeRows rows) (group : ℕ) where
  -- What is below a group is not before it.
  pub under_le : (l : ℕ) → is_under rows group l ≡ true → group ≤ l
  under_le = strong (λ l. is_under rows group l ≡ true → group ≤ l) (λ l before under.
      (elim (parent_of rows l) as (λ o. parent_of rows l ≡ o → group ≤ l) [
        | None ↦ λ e. let same : l ≡ group =
            eqb-true l group (sym (is_under-top rows tree group l e) ∙ under) in
            omega (arith, same)
        | Some p ↦ λ e.
            let less : p < l = parent_lt rows tree l p e in
            elim (or_cases (eqb l group) (is_under rows group p)
            (sym (is_under-step rows tree group l p e) ∙ under)) [
              | inl here ↦ let same : l ≡ group = eqb-true l group here in omega (arith, same)
              | inr above ↦ let up : group ≤ p = before p less above in omega (arith, up, less)
            ]
      ]) refl)

  -- The parent of such a group is another one, and not below either.
  pub parent_not_below : (h p : ℕ) → parent_of rows h ≡ Some p → IsNotBelow rows group h
      → is_under rows group p ≡ true → ⊥
  parent_not_below h p e out under =
      let less : p < h = parent_lt rows tree h p e in
      let up : group ≤ p = under_le p under in
      let both : is_under rows group h ≡ true =
      is_under-step rows tree group h p e ∙ or_right (eqb h group) (is_under rows group p) under in
      let same : h ≡ group = out both in
      omega (arith, less, up, same)

  pub child_not_below : (h c : ℕ) → parent_of rows c ≡ Some h
      → (is_under rows group h ≡ true → ⊥) → IsNotBelow rows group c
  child_not_below h c e out under =
      elim (or_cases (eqb c group) (is_under rows group h)
      (sym (is_under-step rows tree group c h e) ∙ under)) [
        | inl here ↦ eqb-true c group here
        | inr above ↦ absurd (out above)
      ]

-- Trees with the same parents: what is under a group, and depths.
module _ (rows others : List Row) (tree : AreTreeRows rows) (other_tree : AreTreeRows others)
    (same : IsSameTree rows others) where
  pub under_same : (g h : ℕ) → is_under others g h ≡ is_under rows g h
  under_same g = strong (λ h. is_under others g h ≡ is_under rows g h) (λ h before.
      (elim (parent_of rows h) as (λ o. parent_of rows h ≡ o
      → is_under others g h ≡ is_under rows g h) [
        | None ↦ λ none.
            is_under-top others other_tree g h (same.parents h ∙ none)
            ∙ sym (is_under-top rows tree g h none)
        | Some p ↦ λ up.
            is_under-step others other_tree g h p (same.parents h ∙ up)
            ∙ ap (λ above. eqb h g || above) (before p (parent_lt rows tree h p up))
            ∙ sym (is_under-step rows tree g h p up)
      ]) refl)

  pub depth_same : (h : ℕ) → depth_of others h ≡ depth_of rows h
  depth_same = strong (λ h. depth_of others h ≡ depth_of rows h) (λ h before.
      (elim (parent_of rows h) as
      (λ o. parent_of rows h ≡ o → depth_of others h ≡ depth_of rows h) [
        | None ↦ λ none.
            depth_of-top others other_tree h (same.parents h ∙ none)
            ∙ sym (depth_of-top rows tree h none)
        | Some p ↦ λ up.
            depth_of-step others other_tree h p (same.parents h ∙ up)
            ∙ ap (λ d. d + 1) (before p (parent_lt rows tree h p up))
            ∙ sym (depth_of-step rows tree h p up)
      ]) refl)

-- Two instances of one tree.
module _ (a b : Groups) (va : IsInstance a) (vb : IsInstance b)
    (tree : IsSameTree a.rows b.rows) where
  -- Equal demands at a leaf, and equal mosts of the children elsewhere, give equal wants.
  pub want_same : (ma mb : List ℕ) (g : ℕ) → demand_of b.rows g ≡ demand_of a.rows g
      → ((c : ℕ) → c < length a.rows → parent_of a.rows c ≡ Some g → get_or mb c 0 ≡ get_or ma c 0)
      → want_of b mb g ≡ want_of a ma g
  want_same ma mb g demands below =
      let kids : sum_by (slice_index mb) (children_of b.rows g)
      ≡ sum_by (slice_index ma) (children_of a.rows g) =
      ap (sum_by (slice_index mb)) (children_same a.rows b.rows tree g)
      ∙ sym (sum-map (slice_index mb) (children_of a.rows g))
      ∙ ap sum (at_children a.rows (slice_index mb) (slice_index ma) g below)
      ∙ sum-map (slice_index ma) (children_of a.rows g) in
      rw (leaf_same a.rows b.rows tree g, demands, kids) refl

  module _ (ma mb xs ys : List ℕ) (pa : IsPlanning a ma (λ _. true) xs)
      (pb : IsPlanning b mb (λ _. true) ys) where
    -- The split of b at a group, over the rows of a.
    pub split_beside : (p : ℕ) → p < length a.rows → is_leaf a.rows p ≡ false
        → IsBestSplit (get_or ys p 0) (map (weight_of b.rows) (children_of a.rows p))
        (map (slice_index mb) (children_of a.rows p)) (map (slice_index ys) (children_of a.rows p))
    split_beside p below inner =
        rw (children_same a.rows b.rows tree p) at
        (pb.splits p (omega (arith, below, tree.as_many)) refl
        (leaf_same a.rows b.rows tree p ∙ inner))

    pub weighted_beside : (p : ℕ) → AreWeighted (map (weight_of b.rows) (children_of a.rows p))
        (map (slice_index mb) (children_of a.rows p))
    weighted_beside p =
        rw (children_same a.rows b.rows tree p) at (weighted b vb mb p)

    -- The same, where the children's mosts are equal.
    pub split_over : (p : ℕ) → p < length a.rows → is_leaf a.rows p ≡ false
        → ((c : ℕ) → c < length a.rows → parent_of a.rows c ≡ Some p
        → get_or mb c 0 ≡ get_or ma c 0)
        → IsBestSplit (get_or ys p 0) (map (weight_of b.rows) (children_of a.rows p))
        (map (slice_index ma) (children_of a.rows p)) (map (slice_index ys) (children_of a.rows p))
    split_over p below inner same_most =
        rw (at_children a.rows (slice_index mb) (slice_index ma) p same_most) at
        (split_beside p below inner)

    -- Equal amounts of a parent, weights and mosts of its children give equal amounts.
    pub step_same : (c p : ℕ) → c < length a.rows → p < length a.rows
        → parent_of a.rows c ≡ Some p → get_or ys p 0 ≡ get_or xs p 0
        → ((s : ℕ) → s < length a.rows → parent_of a.rows s ≡ Some p
        → weight_of b.rows s ≡ weight_of a.rows s)
        → ((s : ℕ) → s < length a.rows → parent_of a.rows s ≡ Some p
        → get_or mb s 0 ≡ get_or ma s 0)
        → get_or ys c 0 ≡ get_or xs c 0
    step_same c p c_in p_in e same weights most =
        let inner : is_leaf a.rows p ≡ false = parent_not_leaf a.rows p c c_in e in
        let place : (k : ℕ) × (k < length (children_of a.rows p))
        × (get_or (children_of a.rows p) k 0 ≡ c) = listed_child a.rows p c c_in e in
        let over : IsBestSplit (get_or xs p 0) (child_weights a.rows p)
        (map (slice_index ma) (children_of a.rows p))
        (map (slice_index ys) (children_of a.rows p)) =
        rw (same, at_children a.rows (weight_of b.rows) (weight_of a.rows) p weights) at
        (split_over p p_in inner most) in
        let parts : map (slice_index ys) (children_of a.rows p)
        ≡ map (slice_index xs) (children_of a.rows p) =
        IsBestSplit-unique (get_or xs p 0) (child_weights a.rows p)
        (map (slice_index ma) (children_of a.rows p)) (map (slice_index ys) (children_of a.rows p))
        (map (slice_index xs) (children_of a.rows p)) over (pa.splits p p_in refl inner) in
        sym (at_place a.rows ys p place.0 c place.1 place.2)
        ∙ ap (λ list. get_or list place.0 0) parts
        ∙ at_place a.rows xs p place.0 c place.1 place.2
