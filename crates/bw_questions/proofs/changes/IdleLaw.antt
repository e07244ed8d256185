-- A group that asks for nothing has nothing, and the others have what they had.
use Rattle.std.proofs.Common.{◌≡◌, ℕ, suc, ◌<◌, ◌≤◌, List, true}
use Rattle.std.proofs.Common.{None, Some, length, get_or, refl, ap, sym, ◌∙◌, arith, inl, inr}
use Rattle.std.specs.Prelude.{insert}
use Rattle.std.specs.Option.{option_map}
use Rattle.std.proofs.lemmas.Bool.{cases_eq, cases_Bool}
use Rattle.std.proofs.lemmas.List.{length-map, get_or-map}
use Rattle.std.proofs.lemmas.List.Edits.{length-insert, get_or-insert_at}
use Rattle.bw_model.specs.declared.row.Row.{Row}
use Rattle.bw_model.specs.Groups.{IsInstance, no_row, row_of, parent_of, is_leaf, limit_of}
use Rattle.bw_model.specs.Host.{Shape}
use Rattle.bw_model.specs.Demand.{want_of}
use Rattle.bw_model.specs.Plan.{IsPlan}
use Rattle.bw_model.proofs.CallerLemmas.{from_the_last, mosts, mosts-capped, capped_le_want}
use Rattle.bw_model.proofs.CallerLemmas.{parent_lt, inner_has_child}
use Rattle.bw_plan.specs.Shared.{IsPlanning}
use Rattle.bw_plan.proofs.CallerLemmas.{at_most}
use Rattle.bw_questions.proofs.changes.Trees.{planned}
use Rattle.bw_questions.specs.changes.Places.{later, renumbered, all_renumbered}
use Rattle.bw_questions.specs.changes.Idle.{IdleGroupChangesNothing, with_group}
use Rattle.bw_questions.proofs.changes.Places.{later-below, later-from, later-in, later-le}
use Rattle.bw_questions.proofs.changes.Places.{later-alike}
use Rattle.bw_questions.proofs.changes.Places.{inserted_old, inserted_whole, later_back}
use Rattle.bw_questions.proofs.changes.Places.{later_taken}
use Rattle.bw_questions.proofs.changes.Carried.{IsCarried, most_same, amounts_same}
use Rattle.bw_questions.proofs.changes.Longer.{IsLonger, longer-IsCarried}

module _ (shape : Shape) (rows : List Row) (place : ℕ) (idle : Row)
    (va : IsInstance (record { shape = shape; rows = rows })) (inside : place ≤ length rows)
    (vb : IsInstance (record { shape = shape; rows = with_group rows place idle }))
    (none : idle.demand ≡ 0) where
  abbrev longer : List Row
  longer = with_group rows place idle

  length_all : length (all_renumbered place rows) ≡ length rows
  unfolding all_renumbered
  length_all = length-map rows (renumbered (later place))

  one_more : length longer ≡ suc (length rows)
  unfolding with_group
  one_more =
      omega (
        arith,
        length_all,
        length-insert (all_renumbered place rows) place idle (omega (arith, length_all, inside)),
      )

  row_old : (x : ℕ) → x < length rows
      → row_of longer (later place x) ≡ renumbered (later place) (row_of rows x)
  unfolding with_group all_renumbered
  row_old x below =
      inserted_old (all_renumbered place rows) place idle no_row x
      (omega (arith, length_all, inside))
      ∙ get_or-map (renumbered (later place)) rows x no_row no_row below

  row_new : row_of longer place ≡ idle
  unfolding with_group
  row_new =
      get_or-insert_at (all_renumbered place rows) place idle no_row
      (omega (arith, length_all, inside))

  is_longer : IsLonger rows longer place (later place)
  unfolding renumbered
  is_longer = record {
    one_more = one_more;
    inside = inside;
    numbers = λ x below. omega (arith, one_more, later-in place x (length rows) below);
    upward = later-le place;
    alike = later-alike place;
    parents = λ x below. ap (λ (r : Row). r.parent) (row_old x below);
    weights = λ x below. ap (λ (r : Row). r.weight) (row_old x below);
    demands = λ x below. ap (λ (r : Row). r.demand) (row_old x below);
    limits = λ x below. ap (λ (r : Row). r.limit) (row_old x below);
  }

  carried : IsCarried rows longer place (later place) (later place)
  carried = longer-IsCarried rows longer place (later place) is_longer

  ma : List ℕ
  ma = mosts (record { shape = shape; rows = rows }) va.tree

  mb : List ℕ
  mb = mosts (record { shape = shape; rows = longer }) vb.tree

  place_in : place < length longer
  place_in = omega (arith, one_more, inside)

  -- The new group is not the root, since that has a row of its own.
  not_root : 0 < place
  not_root = elim (cases_eq place 0) [
    | inr other ↦ omega (arith, other)
    | inl root ↦
        let second : later place 0 ≡ 1 = later-from place 0 (omega (arith, root)) ∙ omega arith in
        let up : (p : ℕ) × (parent_of longer (later place 0) ≡ Some p) × (p < later place 0) =
        vb.tree.parent_before (later place 0) (omega (arith, second))
        (omega (arith, second, one_more, va.tree.has_root)) in
        let old : parent_of longer (later place 0) ≡ None =
        is_longer.parents 0 va.tree.has_root
        ∙ ap (option_map (later place)) va.tree.root_on_top in
        absurd (let clash : None ≡ Some up.0 = sym old ∙ up.1 in cc)
  ]

  -- No group names it as its parent.
  no_child : (c : ℕ) → c < length longer → parent_of longer c ≡ Some place → ⊥
  no_child c below e =
      let after : place < c = parent_lt longer vb.tree c place e in
      let old : (x : ℕ) × (x < length rows) × (later place x ≡ c) =
      later_back place (length rows) c (omega (arith, below, one_more))
      (λ same. omega (arith, after, same)) inside in
      let up : option_map (later place) (parent_of rows old.0) ≡ Some place =
      sym (is_longer.parents old.0 old.1) ∙ ap (parent_of longer) old.2 ∙ e in
      later_taken place (parent_of rows old.0) up

  new_leaf : is_leaf longer place ≡ true
  new_leaf = elim (cases_Bool (is_leaf longer place)) [
    | inl leaf ↦ leaf
    | inr inner ↦
        let child : (c : ℕ) × (c < length longer) × (parent_of longer c ≡ Some place) =
        inner_has_child longer place inner in
        absurd (no_child child.0 child.1 child.2)
  ]

  most_new : get_or mb place 0 ≡ 0
  unfolding mb
  most_new =
      let want : want_of (record { shape = shape; rows = longer })
      (mosts (record { shape = shape; rows = longer }) vb.tree) place ≡ 0 =
      rw new_leaf (ap (λ (r : Row). r.demand) row_new ∙ none) in
      omega (
        arith,
        want,
        mosts-capped (record { shape = shape; rows = longer }) vb.tree place place_in,
        capped_le_want (limit_of (record { shape = shape; rows = longer }) place)
            (want_of (record { shape = shape; rows = longer })
            (mosts (record { shape = shape; rows = longer }) vb.tree) place),
      )

  most_old : (x : ℕ) → x < length rows → get_or mb (later place x) 0 ≡ get_or ma x 0
  unfolding ma mb
  most_old = from_the_last (length rows)
      (λ x. get_or (mosts (record { shape = shape; rows = longer }) vb.tree) (later place x) 0
      ≡ get_or (mosts (record { shape = shape; rows = rows }) va.tree) x 0)
      (λ x below after.
      most_same shape rows longer place (later place) (later place) carried va vb
      (mosts (record { shape = shape; rows = rows }) va.tree)
      (mosts (record { shape = shape; rows = longer }) vb.tree) (λ q q_in. inr most_new)
      (mosts-capped (record { shape = shape; rows = rows }) va.tree)
      (mosts-capped (record { shape = shape; rows = longer }) vb.tree) x below
      (λ root. rw root (later-below place 0 not_root))
      (λ c c_in e. after c (parent_lt rows va.tree c x e) c_in))

  module _ (xs ys : List ℕ) (is_plan : IsPlan (record { shape = shape; rows = rows }) xs)
      (is_other : IsPlan (record { shape = shape; rows = longer }) ys) where
    pa : IsPlanning (record { shape = shape; rows = rows }) ma (λ _. true) xs
    unfolding ma
    pa = planned (record { shape = shape; rows = rows }) va xs is_plan

    pb : IsPlanning (record { shape = shape; rows = longer }) mb (λ _. true) ys
    unfolding mb
    pb = planned (record { shape = shape; rows = longer }) vb ys is_other

    nothing_new : get_or ys place 0 ≡ 0
    unfolding mb
    nothing_new =
        let within : get_or ys place 0 ≤ get_or mb place 0 =
        at_most (record { shape = shape; rows = longer }) vb mb
        (mosts-capped (record { shape = shape; rows = longer }) vb.tree) (λ _. true)
        place ys pb (λ p e. refl) place_in in
        omega (arith, within, most_new)

    top : get_or ys (later place 0) 0 ≡ get_or xs 0 0
    top =
        ap (λ i. get_or ys i 0) (later-below place 0 not_root)
        ∙ pb.top
        ∙ ap (λ i. get_or mb i 0) (sym (later-below place 0 not_root))
        ∙ most_old 0 va.tree.has_root
        ∙ sym pa.top

    whole : ys ≡ insert xs place 0
    whole = inserted_whole xs ys place 0 (omega (arith, pb.one_each, one_more, pa.one_each))
        (omega (arith, inside, pa.one_each))
        (λ x below.
        amounts_same shape rows longer place (later place) (later place) carried va vb ma mb
        (λ q q_in. inr most_new) xs ys pa pb most_old top (λ c c_in. refl) x
        (omega (arith, below, pa.one_each)))
        nothing_new

pub idle_changes_nothing : IdleGroupChangesNothing
idle_changes_nothing shape rows place idle xs ys va vb inside none is_plan is_other =
    whole shape rows place idle va inside vb none xs ys is_plan is_other
