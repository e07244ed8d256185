-- In another order of the rows, with siblings in the same order, each group has what it had.
use Rattle.std.proofs.Common.{◌≡◌, ℕ, ◌+◌, ◌<◌, ◌≤◌, List, [], ◌∷◌, ◌++◌, Option, cond}
use Rattle.std.proofs.Common.{true, false, None, Some, length, get_or, refl, ap, sym, ◌∙◌, arith}
use Rattle.std.proofs.Common.{inl, inr, eqb}
use Rattle.std.specs.Prelude.{map}
use Rattle.std.specs.Option.{option_map, option_map_or}
use Rattle.std.proofs.lemmas.Bool.{cases_eq}
use Rattle.std.proofs.lemmas.List.{append-nil, get_or_past}
use Rattle.std.proofs.lemmas.Option.{same_Some}
use Rattle.bw_model.specs.declared.row.Row.{Row}
use Rattle.bw_model.specs.Groups.{IsInstance, no_row, parent_of, is_child, children_of}
use Rattle.bw_model.specs.Host.{Shape}
use Rattle.bw_model.specs.Plan.{IsPlan}
use Rattle.bw_model.proofs.CallerLemmas.{from_the_last, mosts, mosts-capped, parent_lt}
use Rattle.bw_model.proofs.CallerLemmas.{parent_from_is_child, is_child_from_parent}
use Rattle.bw_plan.specs.Shared.{IsPlanning}
use Rattle.bw_questions.proofs.changes.Trees.{planned}
use Rattle.bw_questions.specs.changes.Places.{renumbered}
use Rattle.bw_questions.specs.changes.Order.{IsReordered, RowOrderChangesNothing}
use Rattle.bw_questions.proofs.changes.Rising.{IsIn, rising_same, filter_rising, in_filter}
use Rattle.bw_questions.proofs.changes.Rising.{from_filter}
use Rattle.bw_questions.proofs.changes.Rising.{in_map, from_map, map_rising}
use Rattle.bw_questions.proofs.changes.Carried.{IsCarried, most_same, amounts_same}

-- the parent whose number is known
sent : (number : ℕ → ℕ) (o : Option ℕ) (n : ℕ) → option_map number o ≡ Some n
    → (p : ℕ) × (o ≡ Some p) × (number p ≡ n)
sent number None n e = absurd (let clash : None ≡ Some n = e in cc)
sent number (Some p) n e = (p, refl, same_Some (number p) n e)

module _ (shape : Shape) (rows others : List Row) (number old : ℕ → ℕ)
    (va : IsInstance (record { shape = shape; rows = rows }))
    (vb : IsInstance (record { shape = shape; rows = others }))
    (is : IsReordered rows others number old) where
  number_in : (x : ℕ) → x < length rows → number x < length others
  number_in x below =
      let within : number x < length rows = (is.numbers x below).0 in
      omega (arith, within, is.as_many)

  one_number : (x y : ℕ) → x < length rows → y < length rows → number x ≡ number y → x ≡ y
  one_number x y x_in y_in same =
      sym (is.numbers x x_in).1 ∙ ap old same ∙ (is.numbers y y_in).1

  parents : (x : ℕ) → x < length rows
      → parent_of others (number x) ≡ option_map number (parent_of rows x)
  unfolding renumbered
  parents x below = ap (λ (r : Row). r.parent) (is.same_rows x below)

  root : number 0 ≡ 0
  root = elim (cases_eq (number 0) 0) [
    | inl same ↦ same
    | inr other ↦
        let up : (p : ℕ) × (parent_of others (number 0) ≡ Some p) × (p < number 0) =
        vb.tree.parent_before (number 0) (omega (arith, other))
        (number_in 0 va.tree.has_root) in
        let top : parent_of others (number 0) ≡ None =
        parents 0 va.tree.has_root ∙ ap (option_map number) va.tree.root_on_top in
        absurd (let clash : None ≡ Some up.0 = sym top ∙ up.1 in cc)
  ]

  deeper : (x : ℕ) → x < length rows → 0 < x → 0 < number x
  deeper x below above = elim (cases_eq (number x) 0) [
    | inr other ↦ omega (arith, other)
    | inl same ↦
        let top : x ≡ 0 = one_number x 0 below va.tree.has_root (same ∙ sym root) in
        absurd (omega (arith, top, above))
  ]

  is_child_of : (q x : ℕ) → q < length rows → x < length rows
      → parent_of others (number x) ≡ Some (number q) → parent_of rows x ≡ Some q
  is_child_of q x q_in x_in e =
      let up : (p : ℕ) × (parent_of rows x ≡ Some p) × (number p ≡ number q) =
      sent number (parent_of rows x) (number q) (sym (parents x x_in) ∙ e) in
      let before : up.0 < x = parent_lt rows va.tree x up.0 up.1 in
      let same : up.0 ≡ q =
      one_number up.0 q (omega (arith, before, x_in)) q_in up.2 in
      up.1 ∙ ap (λ p. Some p) same

  there : (q y : ℕ) → q < length rows → IsIn y (children_of others (number q))
      → IsIn y (map number (children_of rows q))
  unfolding children_of
  there q y q_in here =
      let found : (0 ≤ y) × (y < 0 + length others) × (is_child others (number q) y ≡ true) =
      from_filter (is_child others (number q)) 0 (length others) y here in
      let y_in : y < length rows = omega (arith, found.1, is.as_many) in
      let x_in : old y < length rows = (is.olds y y_in).0 in
      let back : number (old y) ≡ y = (is.olds y y_in).1 in
      let child : parent_of rows (old y) ≡ Some q =
      is_child_of q (old y) q_in x_in
      (ap (parent_of others) back
      ∙ parent_from_is_child others (number q) y found.2) in
      let inside : IsIn (number (old y)) (map number (children_of rows q)) =
      in_map number (old y) (children_of rows q)
      (in_filter (is_child rows q) 0 (length rows) (old y) (omega arith) (omega (arith, x_in))
      (is_child_from_parent rows q (old y) child)) in
      rw back at inside

  back : (q y : ℕ) → q < length rows → IsIn y (map number (children_of rows q))
      → IsIn y (children_of others (number q))
  unfolding children_of
  back q y q_in here =
      let from : (x : ℕ) × IsIn x (children_of rows q) × (y ≡ number x) =
      from_map number y (children_of rows q) here in
      let found : (0 ≤ from.0) × (from.0 < 0 + length rows) × (is_child rows q from.0 ≡ true) =
      from_filter (is_child rows q) 0 (length rows) from.0 from.1 in
      let x_in : from.0 < length rows = omega (arith, found.1) in
      let up : parent_of others (number from.0) ≡ Some (number q) =
      parents from.0 x_in
      ∙ ap (option_map number) (parent_from_is_child rows q from.0 found.2) in
      rw from.2
      (in_filter (is_child others (number q)) 0 (length others) (number from.0) (omega arith)
      (omega (arith, number_in from.0 x_in))
      (is_child_from_parent others (number q) (number from.0) up))

  ordered : (q x y : ℕ) → IsIn x (children_of rows q) → IsIn y (children_of rows q) → x < y
      → number x < number y
  unfolding children_of
  ordered q x y x_here y_here less =
      let first : (0 ≤ x) × (x < 0 + length rows) × (is_child rows q x ≡ true) =
      from_filter (is_child rows q) 0 (length rows) x x_here in
      let second : (0 ≤ y) × (y < 0 + length rows) × (is_child rows q y ≡ true) =
      from_filter (is_child rows q) 0 (length rows) y y_here in
      is.siblings x y less (omega (arith, second.1))
      (parent_from_is_child rows q x first.2 ∙ sym (parent_from_is_child rows q y second.2))

  children_same : (q : ℕ) → q < length rows
      → children_of others (number q) ≡ map number (children_of rows q)
  unfolding children_of
  children_same q q_in =
      rising_same 0 (children_of others (number q)) (map number (children_of rows q))
      (filter_rising (is_child others (number q)) 0 (length others))
      (map_rising number 0 0 (children_of rows q)
      (filter_rising (is_child rows q) 0 (length rows)) (λ x here. omega arith) (ordered q))
      (λ y here. there q y q_in here) (λ y here. back q y q_in here)

  -- No row behind the last is a child.
  none_behind : (q : ℕ) → is_child others q (length others) ≡ false
  none_behind q =
      ap (λ (r : Row). option_map_or (λ p. eqb p q) r.parent false)
      (get_or_past others (length others) no_row (omega arith))

  children_parts : (q : ℕ) → q < length rows → children_of others (number q)
      ≡ map number (children_of rows q)
      ++ (cond (is_child others (number q) (length others)) (length others ∷ []) [] ++ [])
  children_parts q q_in =
      rw (none_behind (number q))
      (children_same q q_in ∙ sym (append-nil (map number (children_of rows q))))

  carried : IsCarried rows others (length others) number number
  unfolding renumbered
  carried = record {
    numbers = number_in;
    faces = number_in;
    deeper = deeper;
    parents = parents;
    weights = λ x below. ap (λ (r : Row). r.weight) (is.same_rows x below);
    demands = λ x below. ap (λ (r : Row). r.demand) (is.same_rows x below);
    limits = λ x below. ap (λ (r : Row). r.limit) (is.same_rows x below);
    children = λ q q_in. (
      children_of rows q,
      [],
      sym (append-nil (children_of rows q)),
      children_parts q q_in,
    );
  }

  ma : List ℕ
  ma = mosts (record { shape = shape; rows = rows }) va.tree

  mb : List ℕ
  mb = mosts (record { shape = shape; rows = others }) vb.tree

  most_old : (x : ℕ) → x < length rows → get_or mb (number x) 0 ≡ get_or ma x 0
  unfolding ma mb
  most_old = from_the_last (length rows)
      (λ x. get_or (mosts (record { shape = shape; rows = others }) vb.tree) (number x) 0
      ≡ get_or (mosts (record { shape = shape; rows = rows }) va.tree) x 0)
      (λ x below after.
      most_same shape rows others (length others) number number carried va vb
      (mosts (record { shape = shape; rows = rows }) va.tree)
      (mosts (record { shape = shape; rows = others }) vb.tree)
      (λ q q_in. inl (none_behind (number q)))
      (mosts-capped (record { shape = shape; rows = rows }) va.tree)
      (mosts-capped (record { shape = shape; rows = others }) vb.tree) x below
      (λ top. rw top root) (λ c c_in e. after c (parent_lt rows va.tree c x e) c_in))

  module _ (xs ys : List ℕ) (is_plan : IsPlan (record { shape = shape; rows = rows }) xs)
      (is_other : IsPlan (record { shape = shape; rows = others }) ys) where
    pa : IsPlanning (record { shape = shape; rows = rows }) ma (λ _. true) xs
    unfolding ma
    pa = planned (record { shape = shape; rows = rows }) va xs is_plan

    pb : IsPlanning (record { shape = shape; rows = others }) mb (λ _. true) ys
    unfolding mb
    pb = planned (record { shape = shape; rows = others }) vb ys is_other

    top : get_or ys (number 0) 0 ≡ get_or xs 0 0
    top =
        ap (λ i. get_or ys i 0) root
        ∙ pb.top
        ∙ ap (λ i. get_or mb i 0) (sym root)
        ∙ most_old 0 va.tree.has_root
        ∙ sym pa.top

    each : (x : ℕ) → x < length rows → get_or ys (number x) 0 ≡ get_or xs x 0
    each = amounts_same shape rows others (length others) number number carried va vb ma mb
        (λ q q_in. inl (none_behind (number q))) xs ys pa pb most_old top (λ x below. refl)

pub order_changes_no_amount : RowOrderChangesNothing
order_changes_no_amount shape rows reordered number old xs ys va vb is is_plan is_other =
    each shape rows reordered number old va vb is xs ys is_plan is_other
