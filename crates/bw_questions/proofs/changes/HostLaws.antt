-- A host with more to give: no group has less, and no less is served.
use Rattle.std.proofs.Common.{◌≡◌, ℕ, zero, suc, ◌<◌, ◌≤◌, List, [], ◌∷◌, true, Option, None, Some}
use Rattle.std.proofs.Common.{length, get_or, refl, ap, sym, ◌∙◌, arith, inl, inr, false}
use Rattle.std.specs.Prelude.{min, map, sum_by, slice_index}
use Rattle.std.proofs.lemmas.Bool.{cases_Bool}
use Rattle.std.proofs.lemmas.List.{length-map}
use Rattle.std.proofs.lemmas.List.Sums.{sum_by-cons}
use Rattle.bw_model.specs.declared.row.Row.{Row}
use Rattle.bw_model.specs.Groups.{Groups, IsInstance, parent_of, children_of, is_leaf}
use Rattle.bw_model.specs.Groups.{limit_of}
use Rattle.bw_model.specs.Host.{Shape, capacity_of}
use Rattle.bw_model.specs.Demand.{want_of}
use Rattle.bw_model.specs.Plan.{IsPlan, child_weights}
use Rattle.bw_model.specs.Split.{IsBestSplit}
use Rattle.bw_model.proofs.CallerLemmas.{from_the_last, capped, mosts, mosts-capped}
use Rattle.bw_model.proofs.CallerLemmas.{parent_lt, parent_not_leaf, listed_child, child_at}
use Rattle.bw_plan.specs.Shared.{IsPlanning}
use Rattle.bw_questions.proofs.changes.Pairs.{never_less}
use Rattle.bw_questions.specs.changes.Tree.{IsSameTree}
use Rattle.bw_questions.specs.changes.Host.{CapacityTakesNothing, IsRoomier}
use Rattle.bw_questions.specs.changes.Host.{RaisedLimitsServeNoLess}
use Rattle.bw_questions.proofs.changes.Trees.{from_the_root, planned, want_same, split_over}
use Rattle.bw_questions.proofs.changes.Trees.{weighted, at_place, leaf_same}
use Rattle.bw_questions.proofs.changes.Trees.{children_same}

less_capped : (limit greater want : ℕ) → limit ≤ greater → min want limit ≤ min want greater
less_capped limit greater want h = omega (arith, h)

below_want : (limit : Option ℕ) (w v : ℕ) → w ≤ v → capped limit w ≤ v
below_want None w v h = h
below_want (Some limit) w v h = omega (arith, h)

pub sums_less : (cs ma mb : List ℕ)
    → ((k : ℕ) → k < length cs → get_or ma (get_or cs k 0) 0 ≤ get_or mb (get_or cs k 0) 0)
    → sum_by (slice_index ma) cs ≤ sum_by (slice_index mb) cs
sums_less [] ma mb h = omega arith
sums_less (c ∷ cs) ma mb h =
    omega (
      arith,
      h 0 (omega arith),
      sum_by-cons (slice_index ma) c cs,
      sum_by-cons (slice_index mb) c cs,
      sums_less cs ma mb (λ k below. h (suc k) (omega (arith, below))),
    )

module _ (rows : List Row) (shape greater : Shape)
    (va : IsInstance (record { shape = shape; rows = rows }))
    (vb : IsInstance (record { shape = greater; rows = rows }))
    (more : capacity_of shape ≤ capacity_of greater) where
  same_tree : IsSameTree rows rows
  same_tree = record { as_many = refl; parents = λ g. refl }

  ma : List ℕ
  ma = mosts (record { shape = shape; rows = rows }) va.tree

  mb : List ℕ
  mb = mosts (record { shape = greater; rows = rows }) vb.tree

  limit_same : (g : ℕ) → 0 < g → limit_of (record { shape = greater; rows = rows }) g
      ≡ limit_of (record { shape = shape; rows = rows }) g
  limit_same zero pos = absurd (omega (arith, pos))
  limit_same (suc g) pos = refl

  most_same : (g : ℕ) → g < length rows → 0 < g → get_or mb g 0 ≡ get_or ma g 0
  unfolding ma mb
  most_same = from_the_last (length rows)
      (λ g. 0 < g → get_or (mosts (record { shape = greater; rows = rows }) vb.tree) g 0
      ≡ get_or (mosts (record { shape = shape; rows = rows }) va.tree) g 0)
      (λ g below later pos.
      mosts-capped (record { shape = greater; rows = rows }) vb.tree g below
      ∙ ap (λ l. capped l (want_of (record { shape = greater; rows = rows })
      (mosts (record { shape = greater; rows = rows }) vb.tree) g)) (limit_same g pos)
      ∙ ap (capped (limit_of (record { shape = shape; rows = rows }) g))
      (want_same (record { shape = shape; rows = rows }) (record { shape = greater; rows = rows })
      va vb (record { as_many = refl; parents = λ g. refl })
      (mosts (record { shape = shape; rows = rows }) va.tree)
      (mosts (record { shape = greater; rows = rows }) vb.tree) g refl
      (λ c c_in e. let after : g < c = parent_lt rows va.tree c g e in
      later c after c_in (omega (arith, after))))
      ∙ sym (mosts-capped (record { shape = shape; rows = rows }) va.tree g below))

  top_less : get_or ma 0 0 ≤ get_or mb 0 0
  unfolding ma mb
  top_less =
      let want : want_of (record { shape = greater; rows = rows })
      (mosts (record { shape = greater; rows = rows }) vb.tree) 0
      ≡ want_of (record { shape = shape; rows = rows })
      (mosts (record { shape = shape; rows = rows }) va.tree) 0 =
      want_same (record { shape = shape; rows = rows }) (record { shape = greater; rows = rows })
      va vb (record { as_many = refl; parents = λ g. refl })
      (mosts (record { shape = shape; rows = rows }) va.tree)
      (mosts (record { shape = greater; rows = rows }) vb.tree) 0 refl
      (λ c c_in e. most_same c c_in (parent_lt rows va.tree c 0 e)) in
      rw (
        mosts-capped (record { shape = shape; rows = rows }) va.tree 0 va.tree.has_root,
        mosts-capped (record { shape = greater; rows = rows }) vb.tree 0 vb.tree.has_root,
        want,
      )
      (less_capped (capacity_of shape) (capacity_of greater)
      (want_of (record { shape = shape; rows = rows })
      (mosts (record { shape = shape; rows = rows }) va.tree) 0) more)

  module _ (xs ys : List ℕ) (is_plan : IsPlan (record { shape = shape; rows = rows }) xs)
      (is_other : IsPlan (record { shape = greater; rows = rows }) ys) where
    pa : IsPlanning (record { shape = shape; rows = rows }) ma (λ _. true) xs
    unfolding ma
    pa = planned (record { shape = shape; rows = rows }) va xs is_plan

    pb : IsPlanning (record { shape = greater; rows = rows }) mb (λ _. true) ys
    unfolding mb
    pb = planned (record { shape = greater; rows = rows }) vb ys is_other

    step : (g p : ℕ) → g < length rows → parent_of rows g ≡ Some p → get_or xs p 0 ≤ get_or ys p 0
        → get_or xs g 0 ≤ get_or ys g 0
    step g p below e up =
        let p_in : p < length rows = omega (arith, parent_lt rows va.tree g p e, below) in
        let inner : is_leaf rows p ≡ false = parent_not_leaf rows p g below e in
        let place : (k : ℕ) × (k < length (children_of rows p))
        × (get_or (children_of rows p) k 0 ≡ g) = listed_child rows p g below e in
        let over : IsBestSplit (get_or ys p 0) (child_weights rows p)
        (map (slice_index ma) (children_of rows p)) (map (slice_index ys) (children_of rows p)) =
        split_over (record { shape = shape; rows = rows }) (record { shape = greater; rows = rows })
        va vb same_tree ma mb xs ys pa pb p p_in inner
        (λ c c_in parent. most_same c c_in
        (omega (arith, parent_lt rows va.tree c p parent))) in
        let here : IsBestSplit (get_or xs p 0) (child_weights rows p)
        (map (slice_index ma) (children_of rows p)) (map (slice_index xs) (children_of rows p)) =
        pa.splits p p_in refl inner in
        let less : get_or (map (slice_index xs) (children_of rows p)) place.0 0
        ≤ get_or (map (slice_index ys) (children_of rows p)) place.0 0 =
        never_less (get_or xs p 0) (get_or ys p 0) (child_weights rows p)
        (map (slice_index ma) (children_of rows p)) (map (slice_index xs) (children_of rows p))
        (map (slice_index ys) (children_of rows p))
        (weighted (record { shape = shape; rows = rows }) va ma p) up here over place.0
        (omega (arith, place.1, length-map (children_of rows p) (slice_index xs))) in
        rw (
          at_place rows xs p place.0 g place.1 place.2,
          at_place rows ys p place.0 g place.1 place.2,
        ) at less

    all_less : (g : ℕ) → g < length rows → get_or xs g 0 ≤ get_or ys g 0
    all_less = from_the_root rows va.tree (λ g. get_or xs g 0 ≤ get_or ys g 0)
        (omega (arith, pa.top, pb.top, top_less))
        (λ g p below up less. step g p below up less)

pub capacity_takes_nothing : CapacityTakesNothing
capacity_takes_nothing rows shape greater xs ys va vb more is_plan is_other g below =
    all_less rows shape greater va vb more xs ys is_plan is_other g below

-- Wants are no less where no demand is smaller and no most of a child is.
module _ (a b : Groups) (va : IsInstance a) (vb : IsInstance b) (roomier : IsRoomier a b) where
  pub wants_less : (ma mb : List ℕ) (g : ℕ) → ((c : ℕ) → c < length a.rows
      → parent_of a.rows c ≡ Some g → get_or ma c 0 ≤ get_or mb c 0)
      → want_of a ma g ≤ want_of b mb g
  wants_less ma mb g below = elim (cases_Bool (is_leaf a.rows g)) [
    | inl leaf ↦ rw (leaf_same a.rows b.rows roomier.tree g, leaf) (roomier.demands g)
    | inr inner ↦
        rw (
          leaf_same a.rows b.rows roomier.tree g,
          inner,
          children_same a.rows b.rows roomier.tree g,
        )
        (sums_less (children_of a.rows g) ma mb
        (λ k k_in. below (get_or (children_of a.rows g) k 0) (child_at a.rows g k k_in).within
        (child_at a.rows g k k_in).parent))
  ]

  capped_less : (g w v : ℕ) → w ≤ v → capped (limit_of a g) w ≤ capped (limit_of b g) v
  capped_less g w v h = (elim (limit_of b g) as (λ o. limit_of b g ≡ o
      → capped (limit_of a g) w ≤ capped o v) [
        | None ↦ λ e. below_want (limit_of a g) w v h
        | Some limit ↦ λ e.
            let lower : (l : ℕ) × (limit_of a g ≡ Some l) × (l ≤ limit) =
            roomier.limits g limit e in
            rw lower.1 (omega (arith, lower.2, h))
      ]) refl

  pub mosts_less : (g : ℕ) → g < length a.rows
      → get_or (mosts a va.tree) g 0 ≤ get_or (mosts b vb.tree) g 0
  mosts_less = from_the_last (length a.rows)
      (λ g. get_or (mosts a va.tree) g 0 ≤ get_or (mosts b vb.tree) g 0)
      (λ g below later.
      rw (
        mosts-capped a va.tree g below,
        mosts-capped b vb.tree g (omega (arith, below, roomier.tree.as_many)),
      )
      (capped_less g (want_of a (mosts a va.tree) g) (want_of b (mosts b vb.tree) g)
      (wants_less (mosts a va.tree) (mosts b vb.tree) g
      (λ c c_in e. later c (parent_lt a.rows va.tree c g e) c_in))))

pub serve_no_less : RaisedLimitsServeNoLess
serve_no_less a b xs ys va vb roomier is_plan is_other =
    let before = planned a va xs is_plan in
    let after = planned b vb ys is_other in
    omega (arith, before.top, after.top, mosts_less a b va vb roomier 0 va.tree.has_root)
