-- Rows with a goal at them or below them.
use Rattle.std.proofs.Common.{◌≡◌, ℕ, ◌+◌, ◌<◌, List, Bool, true, false, length, get_or, refl, sym}
use Rattle.std.proofs.Common.{ap, ◌∙◌, arith, inl, inr, true≢false}
use Rattle.std.proofs.lemmas.Bool.{and_parts, cases_Bool, cases_lt, le-ltb, lt-ltb}
use Rattle.bw_model.specs.declared.row.Row.{Row}
use Rattle.bw_model.specs.Groups.{AreTreeRows, children_of, is_under}
use Rattle.bw_model.proofs.CallerLemmas.{child_at, is_under-self, listed_child, list_any-range}
use Rattle.bw_model.proofs.CallerLemmas.{parent_lt, some_in_range}
use Rattle.bw_questions.specs.changes.Tree.{IsSameTree}
use Rattle.bw_questions.proofs.changes.Trees.{under_same}
use Rattle.bw_questions.specs.Lowered.{has_goal, has_goal_under}
use Rattle.bw_questions.proofs.LeastLaw.{parent_above}
use Rattle.bw_questions.proofs.Paths.{child_above}
use Rattle.std.proofs.lemmas.Bool.{cases_eq}

module _ (rows : List Row) (goals : List ℕ) where
  -- A goal at a row or below it is one of the row.
  pub goal_bound : (h q : ℕ) → q < length rows → 0 < get_or goals q 0 → is_under rows h q ≡ true
      → has_goal rows goals h ≡ true
  unfolding has_goal
  goal_bound h q below some under =
      let near : has_goal_under rows goals h q ≡ true =
      rw (lt-ltb 0 (get_or goals q 0) some, under) refl in
      list_any-range (has_goal_under rows goals h) 0 (length rows) q below
      (ap (has_goal_under rows goals h) (omega arith) ∙ near)

  -- A row of a goal has one at it or below it.
  pub goal_found : (h : ℕ) → has_goal rows goals h ≡ true
      → (q : ℕ) × (q < length rows) × (0 < get_or goals q 0) × (is_under rows h q ≡ true)
  unfolding has_goal
  goal_found h some =
      let found : (k : ℕ) × (k < length rows) × (has_goal_under rows goals h (0 + k) ≡ true) =
      some_in_range (has_goal_under rows goals h) 0 (length rows) some in
      let at : 0 + found.0 ≡ found.0 = omega arith in
      let both : has_goal_under rows goals h found.0 ≡ true =
      sym (ap (has_goal_under rows goals h) at) ∙ found.2 in
      let parts = and_parts _ (is_under rows h found.0) both in
      elim (cases_lt 0 (get_or goals found.0 0)) [
        | inl much ↦ (found.0, found.1, much, parts.1)
        | inr none ↦
            absurd (true≢false (sym parts.0 ∙ le-ltb 0 (get_or goals found.0 0) none))
      ]

  module _ (tree : AreTreeRows rows) (g : ℕ) (below : g < length rows) where
    -- A row has a goal where it has one of its own, or where a child has one.
    pub goal_here : 0 < get_or goals g 0 → has_goal rows goals g ≡ true
    goal_here some = goal_bound g g below some (is_under-self rows tree g)

    pub goal_of_child : (k : ℕ) → k < length (children_of rows g)
        → has_goal rows goals (get_or (children_of rows g) k 0) ≡ true
        → has_goal rows goals g ≡ true
    goal_of_child k k_in some =
        let found = goal_found (get_or (children_of rows g) k 0) some in
        goal_bound g found.0 found.1 found.2
        (parent_above rows tree (get_or (children_of rows g) k 0) g
        (child_at rows g k k_in).parent found.0 found.3)

    pub no_goal_here : get_or goals g 0 ≡ 0
        → ((k : ℕ) → k < length (children_of rows g)
        → has_goal rows goals (get_or (children_of rows g) k 0) ≡ false)
        → has_goal rows goals g ≡ false
    no_goal_here none idle = elim (cases_Bool (has_goal rows goals g)) [
      | inr idle_here ↦ idle_here
      | inl some ↦
          let found = goal_found g some in
          elim (cases_eq found.0 g) [
            | inl here ↦
                let clash : ⊥ = omega (arith, found.2, ap (λ q. get_or goals q 0) here, none) in
                absurd clash
            | inr apart ↦
                let child = child_above rows tree g found.0 found.1 found.3 apart in
                let place : (k : ℕ) × (k < length (children_of rows g))
                × (get_or (children_of rows g) k 0 ≡ child.0) =
                listed_child rows g child.0 child.1 child.2 in
                absurd (true≢false
                (sym (goal_bound child.0 found.0 found.1 found.2 child.3)
                ∙ sym (ap (has_goal rows goals) place.2) ∙ idle place.0 place.1))
          ]
    ]

    -- A row has a goal where it has none of its own just if a child has one.
    pub goal_by_children : get_or goals g 0 ≡ 0 → (marked : Bool)
        → (marked ≡ true → (k : ℕ) × (k < length (children_of rows g))
        × (has_goal rows goals (get_or (children_of rows g) k 0) ≡ true))
        → (marked ≡ false → (k : ℕ) → k < length (children_of rows g)
        → has_goal rows goals (get_or (children_of rows g) k 0) ≡ false)
        → marked ≡ has_goal rows goals g
    goal_by_children zero marked some none = elim (cases_Bool marked) [
      | inl is ↦
          let found = some is in
          is ∙ sym (goal_of_child found.0 found.1 found.2)
      | inr is_not ↦ is_not ∙ sym (no_goal_here zero (none is_not))
    ]

    -- The same, where flags tell which rows after it have goals.
    pub goal_by_flags : (flags : List Bool)
        → ((h : ℕ) → g < h → h < length rows → get_or flags h false ≡ has_goal rows goals h)
        → get_or goals g 0 ≡ 0 → (children : List ℕ) → children ≡ children_of rows g
        → (marked : Bool)
        → (marked ≡ true → (k : ℕ) × (k < length children)
        × (get_or flags (get_or children k 0) false ≡ true))
        → (marked ≡ false → (k : ℕ) → k < length children
        → get_or flags (get_or children k 0) false ≡ false)
        → marked ≡ has_goal rows goals g
    goal_by_flags flags known zero children are marked = rw are (λ some none.
        goal_by_children zero marked
        (λ is.
        let found = some is in
        (found.0, found.1, sym (flag_of found.0 found.1) ∙ found.2))
        (λ is_not k k_in. sym (flag_of k k_in) ∙ none is_not k k_in))
      where
        flag_of : (k : ℕ) → k < length (children_of rows g)
            → get_or flags (get_or (children_of rows g) k 0) false
            ≡ has_goal rows goals (get_or (children_of rows g) k 0)
        flag_of k k_in =
            let child = child_at rows g k k_in in
            known (get_or (children_of rows g) k 0)
            (parent_lt rows tree (get_or (children_of rows g) k 0) g child.parent) child.within

-- In two lists of rows of one tree, a row has a goal in both or in none.
pub goals_same : (rows others : List Row) → AreTreeRows rows → AreTreeRows others
    → IsSameTree rows others → (goals : List ℕ) (h : ℕ)
    → has_goal others goals h ≡ has_goal rows goals h
goals_same rows others one two tree goals h = elim (cases_Bool (has_goal rows goals h)) [
  | inl is ↦
      let found = goal_found rows goals h is in
      goal_bound others goals h found.0 (omega (arith, found.1, tree.as_many)) found.2
      (under_same rows others one two tree h found.0 ∙ found.3)
      ∙ sym is
  | inr is_not ↦ elim (cases_Bool (has_goal others goals h)) [
    | inr none ↦ none ∙ sym is_not
    | inl some ↦
        let found = goal_found others goals h some in
        absurd (true≢false
        (sym (goal_bound rows goals h found.0 (omega (arith, found.1, tree.as_many)) found.2
        (sym (under_same rows others one two tree h found.0) ∙ found.3))
        ∙ is_not))
  ]
]
