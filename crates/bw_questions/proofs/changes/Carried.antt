-- A tree carried into another one: the wants, the splits and the amounts of its groups.
use Rattle.std.proofs.Common.{◌≡◌, ℕ, ◌<◌, List, [], ◌∷◌, ◌++◌, Bool}
use Rattle.std.proofs.Common.{cond, true, false, Some, length, get_or, refl, ap, sym}
use Rattle.std.proofs.Common.{◌∙◌, ◌⊎◌, arith, inl, inr}
use Rattle.std.specs.Prelude.{map, sum, sum_by, slice_index}
use Rattle.std.specs.Option.{option_map}
use Rattle.std.proofs.lemmas.Bool.{cases_eq, cases_Bool}
use Rattle.std.proofs.lemmas.List.{length-map, map-append}
use Rattle.std.proofs.lemmas.List.Sums.{sum-map}
use Rattle.bw_model.specs.declared.row.Row.{Row}
use Rattle.bw_model.specs.Groups.{IsInstance, row_of, parent_of, is_child, children_of}
use Rattle.bw_model.specs.Groups.{is_leaf, weight_of, demand_of, limit_of, sum_of_children}
use Rattle.bw_model.specs.Host.{Shape}
use Rattle.bw_model.specs.Demand.{want_of}
use Rattle.bw_model.specs.Plan.{child_weights}
use Rattle.bw_model.specs.Split.{IsBestSplit}
use Rattle.bw_model.proofs.CallerLemmas.{capped, parent_lt, get_or-map}
use Rattle.bw_model.proofs.CallerLemmas.{parent_not_leaf, listed_child, is_child_from_parent}
use Rattle.bw_model.proofs.CallerLemmas.{inner_has_child, leaf_no_child, no_children}
use Rattle.bw_model.proofs.CallerLemmas.{IsBestSplit-unique}
use Rattle.bw_plan.specs.Shared.{IsPlanning}
use Rattle.bw_questions.proofs.changes.Trees.{limit_below, at_children, at_place, weighted}
use Rattle.bw_questions.proofs.changes.Trees.{from_the_root}
use Rattle.bw_questions.proofs.changes.Places.{map-map, sum_between}
use Rattle.bw_questions.proofs.changes.Places.{split_between}

-- A tree carried into another one. A group has a number there, by which its children know it. Its
-- face is the number at its place among its siblings. Between them one row may be new.
pub record IsCarried (rows longer : List Row) (place : ℕ) (number face : ℕ → ℕ) : Type 0 where
  pub numbers : (x : ℕ) → x < length rows → number x < length longer
  pub faces : (x : ℕ) → x < length rows → face x < length longer
  pub deeper : (x : ℕ) → x < length rows → 0 < x → 0 < number x
  pub parents : (x : ℕ) → x < length rows
      → parent_of longer (face x) ≡ option_map number (parent_of rows x)
  pub weights : (x : ℕ) → x < length rows → weight_of longer (face x) ≡ weight_of rows x
  pub demands : (x : ℕ) → x < length rows → demand_of longer (number x) ≡ demand_of rows x
  pub limits : (x : ℕ) → x < length rows
      → (row_of longer (number x)).limit ≡ (row_of rows x).limit
  pub children : (q : ℕ) → q < length rows → (left : List ℕ) × (right : List ℕ)
      × (children_of rows q ≡ left ++ right)
      × (children_of longer (number q) ≡ map face left
      ++ (cond (is_child longer (number q) place) (place ∷ []) [] ++ map face right))

-- The values of a group's children in the longer tree, with the new row's between them.
values_more : (face : ℕ → ℕ) (place : ℕ) (f : ℕ → ℕ) (left right : List ℕ) (b : Bool)
    → map f (map face left ++ (cond b (place ∷ []) [] ++ map face right))
    ≡ map (λ x. f (face x)) left
    ++ (cond b (f place ∷ []) [] ++ map (λ x. f (face x)) right)
values_more face place f left right true =
    map-append f (map face left) (place ∷ map face right)
    ∙ rw (map-map f face left, map-map f face right) refl
values_more face place f left right false =
    map-append f (map face left) (map face right)
    ∙ rw (map-map f face left, map-map f face right) refl

module _ (shape : Shape) (rows longer : List Row) (place : ℕ)
    (number face : ℕ → ℕ) (is : IsCarried rows longer place number face)
    (va : IsInstance (record { shape = shape; rows = rows }))
    (vb : IsInstance (record { shape = shape; rows = longer }))
    (ma mb : List ℕ) (nothing : (q : ℕ) → q < length rows
    → (is_child longer (number q) place ≡ false) ⊎ (get_or mb place 0 ≡ 0)) where
  sum_same : (q : ℕ) → q < length rows
      → ((c : ℕ) → c < length rows → parent_of rows c ≡ Some q
      → get_or mb (face c) 0 ≡ get_or ma c 0)
      → sum_of_children longer mb (number q) ≡ sum_of_children rows ma q
  sum_same q below same =
      let cut = is.children q below in
      let b = is_child longer (number q) place in
      let f : ℕ → ℕ = λ x. slice_index mb (face x) in
      sym (sum-map (slice_index mb) (children_of longer (number q)))
      ∙ ap (λ xs. sum (map (slice_index mb) xs)) cut.3
      ∙ ap sum (values_more face place (slice_index mb) cut.0 cut.1 b)
      ∙ sum_between b (map f cut.0) (map f cut.1) (slice_index mb place) (nothing q below)
      ∙ ap sum (sym (map-append f cut.0 cut.1))
      ∙ ap (λ xs. sum (map f xs)) (sym cut.2)
      ∙ ap sum (at_children rows f (slice_index ma) q same)
      ∙ sum-map (slice_index ma) (children_of rows q)

  -- A leaf of the longer tree was one before.
  leaf_before : (q : ℕ) → is_leaf longer (number q) ≡ true → is_leaf rows q ≡ true
  leaf_before q leaf = elim (cases_Bool (is_leaf rows q)) [
    | inl already ↦ already
    | inr inner ↦
        let child : (c : ℕ) × (c < length rows) × (parent_of rows c ≡ Some q) =
        inner_has_child rows q inner in
        let none : is_child longer (number q) (face child.0) ≡ false =
        leaf_no_child longer (number q) (face child.0) leaf
        (is.faces child.0 child.1) in
        let one : is_child longer (number q) (face child.0) ≡ true =
        is_child_from_parent longer (number q) (face child.0)
        (is.parents child.0 child.1 ∙ ap (option_map number) child.2) in
        absurd (let clash : false ≡ true = sym none ∙ one in cc)
  ]

  pub want_same : (q : ℕ) → q < length rows
      → ((c : ℕ) → c < length rows → parent_of rows c ≡ Some q
      → get_or mb (face c) 0 ≡ get_or ma c 0)
      → want_of (record { shape = shape; rows = longer }) mb (number q)
      ≡ want_of (record { shape = shape; rows = rows }) ma q
  want_same q below same = elim (cases_Bool (is_leaf longer (number q))) [
    | inl leaf ↦ rw (leaf, leaf_before q leaf) (is.demands q below)
    | inr inner ↦ elim (cases_Bool (is_leaf rows q)) [
      | inr also ↦ rw (inner, also) (sum_same q below same)
      | inl leaf ↦
          let idle : demand_of longer (number q) ≡ 0 =
          vb.inner_idle (number q) (is.numbers q below) inner in
          let own : demand_of rows q ≡ 0 = sym (is.demands q below) ∙ idle in
          let empty : sum_of_children rows ma q ≡ 0 =
          ap (sum_by (slice_index ma)) (no_children rows q leaf) in
          rw (inner, leaf) (sum_same q below same ∙ empty ∙ sym own)
    ]
  ]

  -- The split at a group of the longer tree, without the new row.
  split_same : (q : ℕ) → q < length rows → (ys : List ℕ)
      → IsBestSplit (get_or ys (number q) 0) (child_weights longer (number q))
      (map (slice_index mb) (children_of longer (number q)))
      (map (slice_index ys) (children_of longer (number q)))
      → IsBestSplit (get_or ys (number q) 0)
      (map (λ x. weight_of longer (face x)) (children_of rows q))
      (map (λ x. slice_index mb (face x)) (children_of rows q))
      (map (λ x. slice_index ys (face x)) (children_of rows q))
  split_same q below ys best =
      let cut = is.children q below in
      let b = is_child longer (number q) place in
      let values : (f : ℕ → ℕ) → map f (children_of longer (number q))
      ≡ map (λ x. f (face x)) cut.0
      ++ (cond b (f place ∷ []) [] ++ map (λ x. f (face x)) cut.1) =
      (λ f. ap (map f) cut.3
      ∙ values_more face place f cut.0 cut.1 b) in
      let joined : (f : ℕ → ℕ) → map (λ x. f (face x)) (children_of rows q)
      ≡ map (λ x. f (face x)) cut.0 ++ map (λ x. f (face x)) cut.1 =
      (λ f. ap (map (λ x. f (face x))) cut.2
      ∙ map-append (λ x. f (face x)) cut.0 cut.1) in
      rw (joined (weight_of longer), joined (slice_index mb), joined (slice_index ys))
      (split_between b (get_or ys (number q) 0)
      (map (λ x. weight_of longer (face x)) cut.0)
      (map (λ x. weight_of longer (face x)) cut.1)
      (map (λ x. slice_index mb (face x)) cut.0)
      (map (λ x. slice_index mb (face x)) cut.1)
      (map (λ x. slice_index ys (face x)) cut.0)
      (map (λ x. slice_index ys (face x)) cut.1)
      (weight_of longer place) (slice_index mb place) (slice_index ys place) (nothing q below)
      (length-map cut.0 (λ x. weight_of longer (face x))
      ∙ sym (length-map cut.0 (λ x. slice_index ys (face x))))
      (length-map cut.0 (λ x. slice_index mb (face x))
      ∙ sym (length-map cut.0 (λ x. slice_index ys (face x))))
      (rw (values (weight_of longer), values (slice_index mb)) at
      (weighted (record { shape = shape; rows = longer }) vb mb (number q)))
      (rw (values (weight_of longer), values (slice_index mb), values (slice_index ys)) at best))

  limit_same : (x : ℕ) → x < length rows → (x ≡ 0 → number x ≡ 0)
      → limit_of (record { shape = shape; rows = longer }) (number x)
      ≡ limit_of (record { shape = shape; rows = rows }) x
  limit_same x below root = elim (cases_eq x 0) [
    | inl top ↦ rw (root top, top) refl
    | inr deeper ↦
        limit_below (record { shape = shape; rows = longer }) (number x)
        (is.deeper x below (omega (arith, deeper)))
        ∙ is.limits x below
        ∙ sym (limit_below (record { shape = shape; rows = rows }) x (omega (arith, deeper)))
  ]

  module _ (rule_a : (g : ℕ) → g < length rows → get_or ma g 0
      ≡ capped (limit_of (record { shape = shape; rows = rows }) g)
      (want_of (record { shape = shape; rows = rows }) ma g))
      (rule_b : (g : ℕ) → g < length longer → get_or mb g 0
      ≡ capped (limit_of (record { shape = shape; rows = longer }) g)
      (want_of (record { shape = shape; rows = longer }) mb g)) where
    pub most_same : (x : ℕ) → x < length rows → (x ≡ 0 → number x ≡ 0)
        → ((c : ℕ) → c < length rows → parent_of rows c ≡ Some x
        → get_or mb (face c) 0 ≡ get_or ma c 0)
        → get_or mb (number x) 0 ≡ get_or ma x 0
    most_same x below root kids =
        rule_b (number x) (is.numbers x below)
        ∙ ap (λ l. capped l (want_of (record { shape = shape; rows = longer }) mb (number x)))
        (limit_same x below root)
        ∙ ap (capped (limit_of (record { shape = shape; rows = rows }) x))
        (want_same x below kids)
        ∙ sym (rule_a x below)

  module _ (xs ys : List ℕ)
      (pa : IsPlanning (record { shape = shape; rows = rows }) ma (λ _. true) xs)
      (pb : IsPlanning (record { shape = shape; rows = longer }) mb (λ _. true) ys)
      (mosts_same : (x : ℕ) → x < length rows → get_or mb (face x) 0 ≡ get_or ma x 0)
      (top : get_or ys (number 0) 0 ≡ get_or xs 0 0)
      (one_amount : (x : ℕ) → x < length rows
      → get_or ys (number x) 0 ≡ get_or ys (face x) 0) where
    part_same : (x q : ℕ) → x < length rows → parent_of rows x ≡ Some q
        → get_or ys (number q) 0 ≡ get_or xs q 0
        → get_or ys (face x) 0 ≡ get_or xs x 0
    part_same x q below e same =
        let q_in : q < length rows = omega (arith, parent_lt rows va.tree x q e, below) in
        let inner : is_leaf rows q ≡ false = parent_not_leaf rows q x below e in
        let inner_more : is_leaf longer (number q) ≡ false =
        parent_not_leaf longer (number q) (face x)
        (is.faces x below)
        (is.parents x below ∙ ap (option_map number) e) in
        let spot : (k : ℕ) × (k < length (children_of rows q))
        × (get_or (children_of rows q) k 0 ≡ x) = listed_child rows q x below e in
        let over : IsBestSplit (get_or xs q 0) (child_weights rows q)
        (map (slice_index ma) (children_of rows q))
        (map (λ c. slice_index ys (face c)) (children_of rows q)) =
        rw (
          same,
          at_children rows (λ c. weight_of longer (face c)) (weight_of rows) q
              (λ c c_in up. is.weights c c_in),
          at_children rows (λ c. slice_index mb (face c)) (slice_index ma) q
              (λ c c_in up. mosts_same c c_in),
        )
        at (split_same q q_in ys (pb.splits (number q) (is.numbers q q_in) refl inner_more)) in
        let parts_same : map (λ c. slice_index ys (face c)) (children_of rows q)
        ≡ map (slice_index xs) (children_of rows q) =
        IsBestSplit-unique (get_or xs q 0) (child_weights rows q)
        (map (slice_index ma) (children_of rows q))
        (map (λ c. slice_index ys (face c)) (children_of rows q))
        (map (slice_index xs) (children_of rows q)) over (pa.splits q q_in refl inner) in
        ap (λ c. get_or ys (face c) 0) (sym spot.2)
        ∙ sym (get_or-map (λ c. slice_index ys (face c)) (children_of rows q) spot.0 spot.1)
        ∙ ap (λ list. get_or list spot.0 0) parts_same
        ∙ at_place rows xs q spot.0 x spot.1 spot.2

    pub amounts_same : (x : ℕ) → x < length rows → get_or ys (number x) 0 ≡ get_or xs x 0
    amounts_same = from_the_root rows va.tree (λ x. get_or ys (number x) 0 ≡ get_or xs x 0) top
        (λ x p below up same. one_amount x below ∙ part_same x p below up same)
