-- A row that has another in its place, with the same parent.
use Rattle.std.proofs.Common.{◌≡◌, ◌⊎◌, inl, inr, ℕ, zero, suc, ◌-◌, ◌<◌, ◌≤◌, ◌==◌, Bool, true}
use Rattle.std.proofs.Common.{false, not, List, [], ◌∷◌, length, get_or, set, Option, None, refl}
use Rattle.std.proofs.Common.{sym, ap, ◌∙◌, arith}
use Rattle.std.proofs.Math.Path.{fun_ext}
use Rattle.std.specs.Prelude.{filter}
use Rattle.std.specs.List.{list_any, range_with_len}
use Rattle.std.specs.Option.{option_map_or}
use Rattle.std.proofs.lemmas.Bool.{cases_eq, cases_lt}
use Rattle.std.proofs.lemmas.List.{get_or-set_same, get_or-set_other, length-set, get_or_default}
use Rattle.bw_model.specs.declared.row.Row.{Row}
use Rattle.bw_model.specs.declared.limits.TheConstants.{MAX_DEMAND, MIN_WEIGHT, MAX_WEIGHT}
use Rattle.bw_model.specs.Host.{Shape}
use Rattle.bw_model.specs.Groups.{no_row, row_of, parent_of, weight_of, demand_of, is_child}
use Rattle.bw_model.specs.Groups.{children_of, is_leaf, path_up_within, path_up, depth_of}
use Rattle.bw_model.specs.Groups.{AreTreeRows, IsInstance}
use Rattle.bw_model.specs.Children.{AreListed, IsIndexed}

-- a weight in its range
abbrev IsWeight : ℕ → Type 0
IsWeight weight = (MIN_WEIGHT ≤ weight) × (weight ≤ MAX_WEIGHT)

module _ (rows : List Row) (g : ℕ) (r : Row) (within : g < length rows)
    (up : r.parent ≡ parent_of rows g) where
  pub parent_same : (k : ℕ) → parent_of (set rows g r) k ≡ parent_of rows k
  parent_same k = elim (cases_eq k g) [
    | inl same ↦
        ap (parent_of (set rows g r)) same
        ∙ ap (λ (x : Row). x.parent) (get_or-set_same rows g r no_row within) ∙ up
        ∙ ap (parent_of rows) (sym same)
    | inr other ↦ ap (λ (x : Row). x.parent) (get_or-set_other rows g k r no_row other)
  ]

  child_same : (k : ℕ) → is_child (set rows g r) k ≡ is_child rows k
  child_same k =
      fun_ext (λ c. ap (λ o. option_map_or (λ p. p == k) o false) (parent_same c))

  pub children_same : (k : ℕ) → children_of (set rows g r) k ≡ children_of rows k
  unfolding children_of
  children_same k =
      ap (λ n. filter (is_child (set rows g r) k) (range_with_len 0 n)) (length-set rows g r)
      ∙ ap (λ (p : ℕ → Bool). filter p (range_with_len 0 (length rows))) (child_same k)

  pub leaf_same : (k : ℕ) → is_leaf (set rows g r) k ≡ is_leaf rows k
  unfolding is_leaf
  leaf_same k =
      ap (λ n. not (list_any (is_child (set rows g r) k) (range_with_len 0 n)))
      (length-set rows g r)
      ∙ ap (λ (p : ℕ → Bool). not (list_any p (range_with_len 0 (length rows)))) (child_same k)

  way_same : (steps k : ℕ)
      → path_up_within steps (set rows g r) k ≡ path_up_within steps rows k
  unfolding path_up_within
  way_same zero k = refl
  way_same (suc steps) k =
      ap (λ o. k ∷ option_map_or (path_up_within steps (set rows g r)) o []) (parent_same k)
      ∙ ap (λ (f : ℕ → List ℕ). k ∷ option_map_or f (parent_of rows k) [])
      (fun_ext (way_same steps))

  pub depth_same : (k : ℕ) → depth_of (set rows g r) k ≡ depth_of rows k
  unfolding depth_of path_up
  depth_same k = ap (λ (p : List ℕ). length p - 1) (way_same k k)

  pub tree_same : AreTreeRows rows → AreTreeRows (set rows g r)
  tree_same tree = record {
    has_root = omega (arith, tree.has_root, length-set rows g r);
    root_on_top = parent_same 0 ∙ tree.root_on_top;
    parent_before = λ k pos lt.
        let old = tree.parent_before k pos (omega (arith, lt, length-set rows g r)) in
        (old.0, parent_same k ∙ old.1, old.2);
  }

  pub listed_same : (starts groups : List ℕ) → AreListed rows starts groups
      → AreListed (set rows g r) starts groups
  listed_same starts groups listed = record {
    parted = λ k lt. listed.parted k (omega (arith, lt, length-set rows g r));
    each = λ k lt. listed.each k (omega (arith, lt, length-set rows g r))
        ∙ sym (children_same k);
  }

  -- what is read of a row: that of the new one at its place, and that of the old one elsewhere
  other_row : (k : ℕ) → (k ≡ g → ⊥) → row_of (set rows g r) k ≡ row_of rows k
  other_row k other = get_or-set_other rows g k r no_row other

  this_row : (k : ℕ) → k ≡ g → row_of (set rows g r) k ≡ r
  this_row k same = ap (row_of (set rows g r)) same ∙ get_or-set_same rows g r no_row within

  module _ (weight : IsWeight r.weight) (small : r.demand ≤ MAX_DEMAND)
      (leaf : 0 < r.demand → is_leaf rows g ≡ true) (free : g ≡ 0 → r.limit ≡ None) where
    weight_fits : (k : ℕ) → IsWeight (weight_of rows k) → IsWeight (weight_of (set rows g r) k)
    weight_fits k old = elim (cases_eq k g) [
      | inl same ↦
          let is : weight_of (set rows g r) k ≡ r.weight =
          ap (λ (x : Row). x.weight) (this_row k same) in
          (omega (arith, weight.0, is), omega (arith, weight.1, is))
      | inr other ↦
          let is : weight_of (set rows g r) k ≡ weight_of rows k =
          ap (λ (x : Row). x.weight) (other_row k other) in
          (omega (arith, old.0, is), omega (arith, old.1, is))
    ]

    demand_small : (k : ℕ) → demand_of rows k ≤ MAX_DEMAND
        → demand_of (set rows g r) k ≤ MAX_DEMAND
    demand_small k old = elim (cases_eq k g) [
      | inl same ↦ omega (arith, small, ap (λ (x : Row). x.demand) (this_row k same))
      | inr other ↦ omega (arith, old, ap (λ (x : Row). x.demand) (other_row k other))
    ]

    idle_here : is_leaf rows g ≡ false → (0 < r.demand) ⊎ (r.demand ≤ 0) → r.demand ≡ 0
    idle_here inner (inl some) = let wrong : true ≡ false = sym (leaf some) ∙ inner in
        absurd (cc)
    idle_here inner (inr none) = omega (arith, none)

    idle_same : (k : ℕ) → (is_leaf rows k ≡ false → demand_of rows k ≡ 0)
        → is_leaf (set rows g r) k ≡ false → demand_of (set rows g r) k ≡ 0
    idle_same k old inner = elim (cases_eq k g) [
      | inl same ↦
          ap (λ (x : Row). x.demand) (this_row k same)
          ∙ idle_here (ap (is_leaf rows) (sym same) ∙ sym (leaf_same k) ∙ inner)
          (cases_lt 0 r.demand)
      | inr other ↦
          ap (λ (x : Row). x.demand) (other_row k other) ∙ old (sym (leaf_same k) ∙ inner)
    ]

    root_free : (row_of rows 0).limit ≡ None → (row_of (set rows g r) 0).limit ≡ None
    root_free old = elim (cases_eq 0 g) [
      | inl same ↦ ap (λ (x : Row). x.limit) (this_row 0 same) ∙ free (sym same)
      | inr other ↦ ap (λ (x : Row). x.limit) (other_row 0 other) ∙ old
    ]

    pub instance_same : (shape : Shape) → IsInstance (record { shape = shape; rows = rows })
        → IsInstance (record { shape = shape; rows = set rows g r })
    instance_same shape ok = record {
      host = ok.host;
      tree = tree_same ok.tree;
      few = omega (arith, ok.few, length-set rows g r);
      weights = λ k lt. weight_fits k (ok.weights k (omega (arith, lt, length-set rows g r)));
      shallow = λ k lt.
          let old = ok.shallow k (omega (arith, lt, length-set rows g r)) in
          omega (arith, old, depth_same k);
      inner_idle = λ k lt inner.
          idle_same k (ok.inner_idle k (omega (arith, lt, length-set rows g r))) inner;
      demands = λ k lt. demand_small k (ok.demands k (omega (arith, lt, length-set rows g r)));
      root_unlimited = root_free ok.root_unlimited;
    }

    pub indexed_same : (shape : Shape) (starts groups : List ℕ)
        → IsIndexed (record { shape = shape; rows = rows }) starts groups
        → IsIndexed (record { shape = shape; rows = set rows g r }) starts groups
    indexed_same shape starts groups is = record {
      valid = instance_same shape is.valid;
      listed = listed_same starts groups is.listed;
    }

-- a row that was read
pub row_read : (rows : List Row) (g : ℕ) (x : Row) → g < length rows → x ≡ get_or rows g x
    → x ≡ row_of rows g
row_read rows g x within read = read ∙ sym (get_or_default rows g no_row x within)

-- its weight is in its range
weight_read : (rows : List Row) (g weight : ℕ) → weight ≡ weight_of rows g
    → IsWeight (weight_of rows g) → IsWeight weight
weight_read rows g weight is old = (omega (arith, old.0, is), omega (arith, old.1, is))

-- another demand in a row that was read
pub demand_IsIndexed : (shape : Shape) (rows : List Row) (starts groups : List ℕ) (g : ℕ) (x : Row)
    (demand : ℕ) → IsIndexed (record { shape = shape; rows = rows }) starts groups
    → g < length rows → x ≡ get_or rows g x → demand ≤ MAX_DEMAND
    → (0 < demand → is_leaf rows g ≡ true)
    → IsIndexed (record { shape = shape; rows = set rows g (record x { demand = demand }) }) starts
    groups
demand_IsIndexed shape rows starts groups g x demand is within read small leaf =
    let same : x ≡ row_of rows g = row_read rows g x within read in
    indexed_same rows g (record x { demand = demand }) within (ap (λ (y : Row). y.parent) same)
    (weight_read rows g x.weight (ap (λ (y : Row). y.weight) same) (is.valid.weights g within))
    small leaf
    (λ top. ap (λ (y : Row). y.limit) same ∙ ap (λ k. (row_of rows k).limit) top
    ∙ is.valid.root_unlimited) shape starts groups is

-- another weight and another limit in a row below the root that was read
pub row_IsIndexed : (shape : Shape) (rows : List Row) (starts groups : List ℕ) (g : ℕ) (x : Row)
    (weight : ℕ) (limit : Option ℕ) → IsIndexed (record { shape = shape; rows = rows }) starts groups
    → g < length rows → x ≡ get_or rows g x → 0 < g → IsWeight weight
    → IsIndexed (record {
      shape = shape;
      rows = set rows g (record x { weight = weight; limit = limit });
    }) starts groups
row_IsIndexed shape rows starts groups g x weight limit is within read below fits =
    let same : x ≡ row_of rows g = row_read rows g x within read in
    let demand : x.demand ≡ demand_of rows g = ap (λ (y : Row). y.demand) same in
    indexed_same rows g (record x { weight = weight; limit = limit }) within
    (ap (λ (y : Row). y.parent) same) fits (omega (arith, demand, is.valid.demands g within))
    (λ some. demanding (is_leaf rows g) (λ inner. is.valid.inner_idle g within inner) demand some)
    (λ top. absurd (omega (arith, top, below))) shape starts groups is
  where
    demanding : (b : Bool) → (b ≡ false → demand_of rows g ≡ 0) → x.demand ≡ demand_of rows g
        → 0 < x.demand → b ≡ true
    demanding true idle same some = refl
    demanding false idle same some = absurd (omega (arith, same, some, idle refl))

-- another limit alone
pub limit_IsIndexed : (shape : Shape) (rows : List Row) (starts groups : List ℕ) (g : ℕ) (x : Row)
    (limit : Option ℕ) → IsIndexed (record { shape = shape; rows = rows }) starts groups
    → g < length rows → x ≡ get_or rows g x → 0 < g
    → IsIndexed (record { shape = shape; rows = set rows g (record x { limit = limit }) }) starts
    groups
limit_IsIndexed shape rows starts groups g x limit is within read below =
    row_IsIndexed shape rows starts groups g x x.weight limit is within read below
    (weight_read rows g x.weight (ap (λ (y : Row). y.weight) (row_read rows g x within read))
    (is.valid.weights g within))
