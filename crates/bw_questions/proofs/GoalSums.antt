-- Sums of goals up the tree, and halves that others keep beside them.
use Rattle.std.proofs.Common.{◌≡◌, ℕ, ◌+◌, ◌<◌, ◌≤◌, List, Bool, true, Some, length, get_or, ap}
use Rattle.std.proofs.Common.{sym, ◌∙◌, arith, cond, refl, inl, inr}
use Rattle.std.proofs.Common.{get_or-set_same, get_or-set_other}
use Rattle.std.specs.Prelude.{◌-◌, ◌*◌, ◌^◌, max, min, map, slice_index, slice_set, sum, sum_by}
use Rattle.std.specs.Int.{div_ceil}
use Rattle.std.proofs.lemmas.Bool.{cases_Bool, cases_eq}
use Rattle.std.proofs.lemmas.Grind.{div_ceil_times}
use Rattle.std.proofs.lemmas.List.Sums.{sum-map, sum_by-le-sum_by}
use Rattle.bw_model.specs.declared.row.Row.{Row}
use Rattle.bw_model.specs.Groups.{Groups, AreTreeRows, IsInstance, children_of, is_leaf, is_under}
use Rattle.bw_model.specs.Groups.{parent_of, sum_of_children}
use Rattle.bw_model.specs.Plan.{IsPlan}
use Rattle.bw_model.proofs.CallerLemmas.{IsPlan-unique, from_the_last, is_under-self, no_children}
use Rattle.bw_model.proofs.CallerLemmas.{parent_lt}
use Rattle.bw_questions.proofs.changes.Trees.{at_children, planned}
use Rattle.bw_questions.specs.Beside.{GoalsComeTo, HalvesAreHad}
use Rattle.bw_questions.proofs.Paths.{above_parent}

-- what goals come to at a row, by the sums of its children
abbrev pub sum_at : List Row → List ℕ → List ℕ → ℕ → ℕ
sum_at rows goals sums g =
    max (slice_index goals g) (min (sum_of_children rows sums g) (2 ^ 64 - 1))

module _ (rows : List Row) (tree : AreTreeRows rows) where
  -- A row's children come after it.
  same_children : (values : List ℕ) (g x h : ℕ) → g ≤ h
      → sum_of_children rows (slice_set values g x) h ≡ sum_of_children rows values h
  same_children values g x h before =
      sym (sum-map (slice_index (slice_set values g x)) (children_of rows h))
      ∙ ap sum (at_children rows (slice_index (slice_set values g x)) (slice_index values) h
      (λ c c_in up. get_or-set_other values g c x 0
      (λ same. let after : h < c = parent_lt rows tree c h up in
      let clash : ⊥ = omega (arith, same, after, before) in clash)))
      ∙ sum-map (slice_index values) (children_of rows h)

  -- The sum of a row beside those of the rows after it.
  pub sum_set : (goals sums : List ℕ) (g x : ℕ) → g < length rows → length sums ≡ length rows
      → x ≡ sum_at rows goals sums g
      → ((h : ℕ) → g + 1 ≤ h → h < length rows → get_or sums h 0 ≡ sum_at rows goals sums h)
      → (h : ℕ) → g ≤ h → h < length rows
      → get_or (slice_set sums g x) h 0 ≡ sum_at rows goals (slice_set sums g x) h
  sum_set goals sums g x below long is later h from inside =
      let same : sum_at rows goals (slice_set sums g x) h ≡ sum_at rows goals sums h =
      ap (λ s. max (slice_index goals h) (min s (2 ^ 64 - 1))) (same_children sums g x h from) in
      elim (cases_eq h g) [
        | inl here ↦
            let value : get_or (slice_set sums g x) g 0 ≡ x =
            get_or-set_same sums g x 0 (omega (arith, below, long)) in
            ap (λ k. get_or (slice_set sums g x) k 0) here ∙ value ∙ is
            ∙ ap (sum_at rows goals sums) (sym here) ∙ sym same
        | inr apart ↦
            get_or-set_other sums g h x 0 apart
            ∙ later h (omega (arith, from, apart)) inside ∙ sym same
      ]

  -- Less for each child is less for all together.
  sum_rises : (f h : ℕ → ℕ) (g : ℕ)
      → ((c : ℕ) → c < length rows → parent_of rows c ≡ Some g → f c ≤ h c)
      → sum (map f (children_of rows g)) ≤ sum (map h (children_of rows g))
  sum_rises f h g less =
      let lesser : map f (children_of rows g) ≡ map (λ c. min (f c) (h c)) (children_of rows g) =
      at_children rows f (λ c. min (f c) (h c)) g
      (λ c c_in up. omega (arith, less c c_in up)) in
      omega (
        arith,
        ap sum lesser,
        sum-map (λ c. min (f c) (h c)) (children_of rows g),
        sum-map h (children_of rows g),
        sum_by-le-sum_by (λ c. min (f c) (h c)) h (children_of rows g) (λ c. omega arith),
      )

-- The children have no more than the group has.
within_group : (groups : Groups) → IsInstance groups → (amounts : List ℕ)
    → IsPlan groups amounts → (g : ℕ) → g < length groups.rows
    → sum (map (slice_index amounts) (children_of groups.rows g)) ≤ get_or amounts g 0
within_group groups valid amounts is_plan g below = elim (cases_Bool (is_leaf groups.rows g)) [
  | inl leaf ↦
      let none : sum (map (slice_index amounts) (children_of groups.rows g)) ≡ 0 =
      rw (no_children groups.rows g leaf) refl in
      omega (arith, none)
  | inr inner ↦
      let whole : sum (map (slice_index amounts) (children_of groups.rows g)) ≡ get_or amounts g 0 =
      ((planned groups valid amounts is_plan).splits g below refl inner).split.whole in
      omega (arith, whole)
]

pub goals_come : GoalsComeTo
goals_come groups goals sums amounts valid are is_plan top top_in met =
    from_the_last (length groups.rows)
    (λ g. is_under groups.rows top g ≡ true → get_or sums g 0 ≤ get_or amounts g 0)
    (λ g below later under.
    let less : sum (map (slice_index sums) (children_of groups.rows g))
    ≤ sum (map (slice_index amounts) (children_of groups.rows g)) =
    sum_rises groups.rows valid.tree (slice_index sums) (slice_index amounts) g
    (λ c c_in up. later c (parent_lt groups.rows valid.tree c g up) c_in
    (above_parent groups.rows valid.tree top c g up under)) in
    let all : get_or sums g 0
    ≡ max (get_or goals g 0)
    (min (sum_by (slice_index sums) (children_of groups.rows g)) (2 ^ 64 - 1)) =
    are.each g below in
    omega (
      arith,
      all,
      met g below under,
      less,
      sum-map (slice_index sums) (children_of groups.rows g),
      within_group groups valid amounts is_plan g below,
    ))
    top top_in (is_under-self groups.rows valid.tree top)

pub halves_had : HalvesAreHad
halves_had groups goals kept amounts valid are is_plan h below other =
    let has : (xs : List ℕ) × IsPlan groups xs × (get_or xs h 0 ≡ get_or are.had h 0) =
    are.are_had.each h below in
    let half : get_or kept h 0 ≡ div_ceil (get_or are.had h 0) 2 =
    are.each h below
    ∙ ap (λ (b : Bool). cond b (div_ceil (get_or are.had h 0) 2) (get_or goals h 0)) other in
    let bound : div_ceil (get_or are.had h 0) 2 * 2 < get_or are.had h 0 + 2 =
    (div_ceil_times (get_or are.had h 0) 2 (omega arith)).1 in
    let same : get_or amounts h 0 ≡ get_or are.had h 0 =
    ap (λ (xs : List ℕ). get_or xs h 0)
    (IsPlan-unique groups amounts has.0 valid.tree is_plan has.1) ∙ has.2 in
    omega (arith, half, same, bound)
