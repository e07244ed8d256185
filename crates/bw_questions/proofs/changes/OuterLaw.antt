-- An outer group around a group has what the group has, and the others have what they had.
use Rattle.std.proofs.Common.{◌≡◌, ℕ, suc, ◌+◌, ◌<◌, ◌≤◌, List, [], ◌∷◌, Option}
use Rattle.std.proofs.Common.{true, false, None, Some, length, get_or, refl, ap, sym, ◌∙◌, arith}
use Rattle.std.proofs.Common.{inl, inr, eqb}
use Rattle.std.specs.Prelude.{map, insert, slice_index, slice_set, sum}
use Rattle.std.specs.List.{range_with_len}
use Rattle.std.specs.Option.{option_map, option_map_or}
use Rattle.std.proofs.lemmas.Bool.{cases_eq, eq-eqb, ne_eqb}
use Rattle.std.proofs.lemmas.List.{get_or-map, get_or-set_same, get_or-set_other, length-map}
use Rattle.std.proofs.lemmas.List.{length-set}
use Rattle.std.proofs.lemmas.List.Edits.{length-insert, get_or-insert_at}
use Rattle.std.proofs.lemmas.List.Sums.{sum_by-cons}
use Rattle.bw_model.specs.declared.row.Row.{Row}
use Rattle.bw_model.specs.Groups.{IsInstance, AreTreeRows, no_row, row_of, parent_of, is_child}
use Rattle.bw_model.specs.Groups.{children_of, is_leaf, weight_of, demand_of, limit_of}
use Rattle.bw_model.specs.Host.{Shape}
use Rattle.bw_model.specs.Demand.{want_of}
use Rattle.bw_model.specs.Plan.{IsPlan}
use Rattle.bw_model.proofs.CallerLemmas.{from_the_last, mosts, mosts-capped, capped, parent_lt}
use Rattle.bw_model.proofs.CallerLemmas.{parent_not_leaf}
use Rattle.bw_plan.specs.Shared.{IsPlanning}
use Rattle.bw_plan.proofs.CallerLemmas.{plan-IsPlanning}
use Rattle.bw_questions.proofs.changes.Trees.{limit_below}
use Rattle.bw_questions.specs.changes.Places.{later, renumbered, all_renumbered}
use Rattle.bw_questions.specs.changes.Outer.{OuterGroupChangesNothing, outer_group, inner_group}
use Rattle.bw_questions.specs.changes.Outer.{with_outer}
use Rattle.bw_questions.proofs.changes.Places.{later-below, later-from, later-in, later-le}
use Rattle.bw_questions.proofs.changes.Places.{later-alike}
use Rattle.bw_questions.proofs.changes.Places.{later-free, later-beside, inserted_old}
use Rattle.bw_questions.proofs.changes.Places.{inserted_whole}
use Rattle.bw_questions.proofs.changes.Places.{parts, AreParts, filter_no, both_empty}
use Rattle.bw_questions.proofs.changes.Carried.{IsCarried, want_same, most_same, amounts_same}
use Rattle.bw_questions.proofs.changes.Longer.{IsLonger, longer-IsCarried}

-- A parent that stands before the place keeps its number.
parent_stays : (rows : List Row) → AreTreeRows rows → (place x : ℕ) → x < length rows → x ≤ place
    → option_map (later place) (parent_of rows x) ≡ parent_of rows x
parent_stays rows tree place x below before = elim (cases_eq x 0) [
  | inl root ↦ rw (root, tree.root_on_top) refl
  | inr deeper ↦
      let up : (p : ℕ) × (parent_of rows x ≡ Some p) × (p < x) =
      tree.parent_before x (omega (arith, deeper)) below in
      rw (up.1, later-below place up.0 (omega (arith, up.2, before))) refl
]

nobody : (place : ℕ) (o : Option ℕ)
    → option_map_or (λ p. eqb p place) (option_map (later place) o) false ≡ false
nobody place None = refl
nobody place (Some p) = ne_eqb (later place p) place (later-free place p)

module _ (shape : Shape) (rows : List Row) (group weight : ℕ)
    (va : IsInstance (record { shape = shape; rows = rows })) (inside : group < length rows)
    (vb : IsInstance (record { shape = shape; rows = with_outer rows group weight })) where
  abbrev longer : List Row
  longer = with_outer rows group weight

  abbrev base : List Row
  base = slice_set (all_renumbered group rows) group (inner_group rows group weight)

  length_all : length (all_renumbered group rows) ≡ length rows
  unfolding all_renumbered
  length_all = length-map rows (renumbered (later group))

  length_base : length base ≡ length rows
  length_base =
      length-set (all_renumbered group rows) group (inner_group rows group weight) ∙ length_all

  fits : group ≤ length base
  fits = omega (arith, length_base, inside)

  one_more : length longer ≡ suc (length rows)
  unfolding with_outer
  one_more =
      omega (arith, length_base, length-insert base group (outer_group rows group) fits)

  row_outer : row_of longer group ≡ outer_group rows group
  unfolding with_outer
  row_outer = get_or-insert_at base group (outer_group rows group) no_row fits

  row_inner : row_of longer (later group group) ≡ inner_group rows group weight
  unfolding with_outer
  row_inner =
      inserted_old base group (outer_group rows group) no_row group fits
      ∙ get_or-set_same (all_renumbered group rows) group (inner_group rows group weight) no_row
      (omega (arith, length_all, inside))

  row_old : (x : ℕ) → x < length rows → (x ≡ group → ⊥)
      → row_of longer (later group x) ≡ renumbered (later group) (row_of rows x)
  unfolding with_outer all_renumbered
  row_old x below other =
      inserted_old base group (outer_group rows group) no_row x fits
      ∙ get_or-set_other (map (renumbered (later group)) rows) group x
      (inner_group rows group weight) no_row other
      ∙ get_or-map (renumbered (later group)) rows x no_row no_row below

  at_outer : later (group + 1) group ≡ group
  at_outer = later-below (group + 1) group (omega arith)

  at_inner : later group group ≡ group + 1
  at_inner = later-from group group (omega arith)

  parents : (x : ℕ) → x < length rows
      → parent_of longer (later (group + 1) x) ≡ option_map (later group) (parent_of rows x)
  unfolding renumbered outer_group
  parents x below = elim (cases_eq x group) [
    | inl here ↦
        rw (here, at_outer)
        (ap (λ (r : Row). r.parent) row_outer
        ∙ sym (parent_stays rows va.tree group group inside (omega arith)))
    | inr other ↦
        ap (parent_of longer) (later-beside group x other)
        ∙ ap (λ (r : Row). r.parent) (row_old x below other)
  ]

  weights : (x : ℕ) → x < length rows
      → weight_of longer (later (group + 1) x) ≡ weight_of rows x
  unfolding renumbered outer_group
  weights x below = elim (cases_eq x group) [
    | inl here ↦ rw (here, at_outer) (ap (λ (r : Row). r.weight) row_outer)
    | inr other ↦
        ap (weight_of longer) (later-beside group x other)
        ∙ ap (λ (r : Row). r.weight) (row_old x below other)
  ]

  demands : (x : ℕ) → x < length rows → demand_of longer (later group x) ≡ demand_of rows x
  unfolding renumbered inner_group
  demands x below = elim (cases_eq x group) [
    | inl here ↦ rw here (ap (λ (r : Row). r.demand) row_inner)
    | inr other ↦ ap (λ (r : Row). r.demand) (row_old x below other)
  ]

  limits : (x : ℕ) → x < length rows
      → (row_of longer (later group x)).limit ≡ (row_of rows x).limit
  unfolding renumbered inner_group
  limits x below = elim (cases_eq x group) [
    | inl here ↦ rw here (ap (λ (r : Row). r.limit) row_inner)
    | inr other ↦ ap (λ (r : Row). r.limit) (row_old x below other)
  ]

  is_longer : IsLonger rows longer (group + 1) (later group)
  is_longer = record {
    one_more = one_more;
    inside = omega (arith, inside);
    numbers = λ x below. omega (arith, one_more, later-in group x (length rows) below);
    upward = later-le group;
    alike = later-alike group;
    parents = parents;
    weights = weights;
    demands = demands;
    limits = limits;
  }

  carried : IsCarried rows longer (group + 1) (later group) (later (group + 1))
  carried = longer-IsCarried rows longer (group + 1) (later group) is_longer

  parent_inner : parent_of longer (group + 1) ≡ Some group
  unfolding inner_group
  parent_inner =
      ap (parent_of longer) (sym at_inner) ∙ ap (λ (r : Row). r.parent) row_inner

  -- The group is the outer group's child, and nobody else's.
  not_elsewhere : (q : ℕ) → is_child longer (later group q) (group + 1) ≡ false
  not_elsewhere q =
      rw parent_inner (ne_eqb group (later group q) (λ e. later-free group q (sym e)))

  only_child : children_of longer group ≡ (group + 1) ∷ []
  unfolding children_of
  only_child =
      let others : (x : ℕ) → x < 0 + length rows
      → is_child longer group (later (group + 1) x) ≡ false =
      (λ x below.
      ap (λ o. option_map_or (λ p. eqb p group) o false)
      (parents x (omega (arith, below)))
      ∙ nobody group (parent_of rows x)) in
      let here : is_child longer group (group + 1) ≡ true =
      rw parent_inner (eq-eqb group group refl) in
      let cut : AreParts (is_child longer group) (λ _. false) (group + 1) 0 (length rows) =
      parts (is_child longer group) (λ _. false) (group + 1) 0 (length rows) (omega arith)
      (omega (arith, inside)) others in
      let none : (cut.0 ≡ []) × (cut.1 ≡ []) =
      both_empty cut.0 cut.1 (sym cut.2 ∙ filter_no (range_with_len 0 (length rows))) in
      rw (one_more, cut.3, none.0, none.1, here) refl

  outer_inner : is_leaf longer group ≡ false
  outer_inner =
      parent_not_leaf longer group (group + 1) (omega (arith, one_more, inside)) parent_inner

  ma : List ℕ
  ma = mosts (record { shape = shape; rows = rows }) va.tree

  mb : List ℕ
  mb = mosts (record { shape = shape; rows = longer }) vb.tree

  rule_a : (g : ℕ) → g < length rows → get_or ma g 0
      ≡ capped (limit_of (record { shape = shape; rows = rows }) g)
      (want_of (record { shape = shape; rows = rows }) ma g)
  unfolding ma
  rule_a = mosts-capped (record { shape = shape; rows = rows }) va.tree

  rule_b : (g : ℕ) → g < length longer → get_or mb g 0
      ≡ capped (limit_of (record { shape = shape; rows = longer }) g)
      (want_of (record { shape = shape; rows = longer }) mb g)
  unfolding mb
  rule_b = mosts-capped (record { shape = shape; rows = longer }) vb.tree

  -- The outer group wants what its child can be given.
  want_outer : want_of (record { shape = shape; rows = longer }) mb group
      ≡ get_or mb (group + 1) 0
  want_outer =
      rw (outer_inner, only_child)
      (sum_by-cons (slice_index mb) (group + 1) [] ∙ omega arith)

  unlimited : (group ≡ 0 → ⊥) → limit_of (record { shape = shape; rows = longer }) group ≡ None
  unfolding outer_group
  unlimited other =
      limit_below (record { shape = shape; rows = longer }) group (omega (arith, other))
      ∙ ap (λ (r : Row). r.limit) row_outer

  module _ (kids : (c : ℕ) → c < length rows → parent_of rows c ≡ Some group
      → get_or mb (later (group + 1) c) 0 ≡ get_or ma c 0) where
    most_below : (group ≡ 0 → ⊥) → get_or mb group 0 ≡ get_or ma group 0
    most_below other =
        rule_b group (omega (arith, one_more, inside))
        ∙ rw (unlimited other) want_outer
        ∙ ap (λ i. get_or mb i 0) (sym at_inner)
        ∙ most_same shape rows longer (group + 1) (later group) (later (group + 1)) carried
        va vb ma mb (λ q q_in. inl (not_elsewhere q)) rule_a rule_b group inside
        (λ root. absurd (other root)) kids

    most_top : group ≡ 0 → get_or mb group 0 ≡ get_or ma group 0
    most_top root =
        let no_limit : limit_of (record { shape = shape; rows = longer }) (group + 1) ≡ None =
        limit_below (record { shape = shape; rows = longer }) (group + 1) (omega arith)
        ∙ ap (λ i. (row_of longer i).limit) (sym at_inner)
        ∙ limits group inside
        ∙ rw root va.root_unlimited in
        let wants : get_or mb (group + 1) 0
        ≡ want_of (record { shape = shape; rows = rows }) ma group =
        rule_b (group + 1) (omega (arith, one_more, inside))
        ∙ rw no_limit refl
        ∙ ap (want_of (record { shape = shape; rows = longer }) mb) (sym at_inner)
        ∙ want_same shape rows longer (group + 1) (later group) (later (group + 1)) carried
        va vb ma mb (λ q q_in. inl (not_elsewhere q)) group inside kids in
        let one_limit : limit_of (record { shape = shape; rows = longer }) group
        ≡ limit_of (record { shape = shape; rows = rows }) group = rw root refl in
        rule_b group (omega (arith, one_more, inside))
        ∙ rw (one_limit, want_outer, wants) refl
        ∙ sym (rule_a group inside)

    most_outer : get_or mb group 0 ≡ get_or ma group 0
    most_outer = elim (cases_eq group 0) [
      | inl root ↦ most_top root
      | inr other ↦ most_below other
    ]

  most_old : (x : ℕ) → x < length rows → get_or mb (later (group + 1) x) 0 ≡ get_or ma x 0
  most_old = from_the_last (length rows)
      (λ x. get_or mb (later (group + 1) x) 0 ≡ get_or ma x 0)
      (λ x below after. elim (cases_eq x group) [
        | inl here ↦
            rw (here, at_outer)
            (most_outer
            (λ c c_in e.
            after c (omega (arith, here, parent_lt rows va.tree c group e)) c_in))
        | inr other ↦
            ap (λ i. get_or mb i 0) (later-beside group x other)
            ∙ most_same shape rows longer (group + 1) (later group) (later (group + 1)) carried
            va vb ma mb (λ q q_in. inl (not_elsewhere q)) rule_a rule_b x below
            (λ root. rw root (later-below group 0 (omega (arith, other, root))))
            (λ c c_in e. after c (parent_lt rows va.tree c x e) c_in)
      ])

  module _ (xs ys : List ℕ) (is_plan : IsPlan (record { shape = shape; rows = rows }) xs)
      (is_other : IsPlan (record { shape = shape; rows = longer }) ys) where
    pa : IsPlanning (record { shape = shape; rows = rows }) ma (λ _. true) xs
    pa = plan-IsPlanning (record { shape = shape; rows = rows }) va ma rule_a xs is_plan

    pb : IsPlanning (record { shape = shape; rows = longer }) mb (λ _. true) ys
    pb = plan-IsPlanning (record { shape = shape; rows = longer }) vb mb rule_b ys is_other

    -- The only child has all that the outer group has.
    all_inside : get_or ys (group + 1) 0 ≡ get_or ys group 0
    all_inside =
        let whole : sum (map (slice_index ys) (children_of longer group)) ≡ get_or ys group 0 =
        (pb.splits group (omega (arith, one_more, inside)) refl outer_inner).split.whole in
        let one : sum (get_or ys (group + 1) 0 ∷ []) ≡ get_or ys group 0 = rw only_child at whole in
        omega (arith, one, sum_by-cons (λ y. y) (get_or ys (group + 1) 0) [])

    one_amount : (x : ℕ) → x < length rows
        → get_or ys (later group x) 0 ≡ get_or ys (later (group + 1) x) 0
    one_amount x below = elim (cases_eq x group) [
      | inl here ↦ rw (here, at_inner, at_outer) all_inside
      | inr other ↦ ap (λ i. get_or ys i 0) (sym (later-beside group x other))
    ]

    top : get_or ys (later group 0) 0 ≡ get_or xs 0 0
    top =
        let first : later (group + 1) 0 ≡ 0 = later-below (group + 1) 0 (omega arith) in
        one_amount 0 va.tree.has_root
        ∙ ap (λ i. get_or ys i 0) first
        ∙ pb.top
        ∙ ap (λ i. get_or mb i 0) (sym first)
        ∙ most_old 0 va.tree.has_root
        ∙ sym pa.top

    same : (x : ℕ) → x < length rows → get_or ys (later group x) 0 ≡ get_or xs x 0
    same = amounts_same shape rows longer (group + 1) (later group) (later (group + 1)) carried
        va vb ma mb (λ q q_in. inl (not_elsewhere q)) xs ys pa pb most_old top one_amount

    whole : ys ≡ insert xs group (get_or xs group 0)
    whole = inserted_whole xs ys group (get_or xs group 0)
        (omega (arith, pb.one_each, one_more, pa.one_each)) (omega (arith, inside, pa.one_each))
        (λ x below. same x (omega (arith, below, pa.one_each)))
        (sym all_inside ∙ ap (λ i. get_or ys i 0) (sym at_inner) ∙ same group inside)

pub outer_changes_nothing : OuterGroupChangesNothing
outer_changes_nothing shape rows group weight xs ys va vb inside is_plan is_other =
    whole shape rows group weight va inside vb xs ys is_plan is_other
