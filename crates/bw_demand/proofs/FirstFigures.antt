-- The figures of the first rows, and of one row more.
use Rattle.std.proofs.Common.{◌≡◌, ℕ, ◌+◌, ◌*◌, ◌<◌, ◌≤◌, List, [], ◌∷◌, ◌++◌, Bool, true, false, cond}
use Rattle.std.proofs.Common.{length, get_or, refl, ap, sym, ◌∙◌, subst, arith, inl, inr, not, All}
use Rattle.std.specs.Prelude.{sum_by, filter}
use Rattle.std.specs.List.{range_with_len}
use Rattle.std.proofs.lemmas.Bool.{cases_eq}
use Rattle.std.proofs.lemmas.List.{get_or_push, get_or_append_left, length_push}
use Rattle.std.proofs.lemmas.List.Elements.{All-from_get_or}
use Rattle.std.proofs.lemmas.List.Filters.{length-filter_both}
use Rattle.std.proofs.lemmas.List.FromFn.{length-range_with_len}
use Rattle.std.proofs.lemmas.List.Sums.{sum_by-cons, sum_by-le}
use Rattle.bw_model.specs.declared.limits.TheConstants.{MAX_GROUPS, MAX_WEIGHT}
use Rattle.bw_model.specs.declared.row.Row.{Row}
use Rattle.bw_model.specs.Demand.{want_of}
use Rattle.bw_model.specs.Groups.{Groups, IsInstance, row_of, parent_of, weight_of, children_of}
use Rattle.bw_model.specs.Groups.{is_child}
use Rattle.bw_model.proofs.CallerLemmas.{child_at}
use Rattle.bw_demand.specs.Figures.{is_active, active_children, weight_if_active}
use Rattle.bw_demand.specs.Figures.{active_weight_of, withheld_slices, AreFigures}

-- Each child of a group is the place of an entry, in a list with one for each row.
pub children_below : {X : Type 0} (rows : List Row) (g : ℕ) (children : List ℕ) (entries : List X)
    → children ≡ children_of rows g → length entries ≡ length rows
    → All (λ c. c < length entries) children
children_below rows g children entries is long = rw (is, long)
    (All-from_get_or (λ c. c < length rows) (children_of rows g) 0
    (λ k below. (child_at rows g k below).within))

-- A group has no more children than there are rows.
pub children_few : (rows : List Row) (g : ℕ) → length (children_of rows g) ≤ length rows
unfolding children_of
children_few rows g = omega (
  arith,
  length-filter_both (is_child rows g) (λ c. not (is_child rows g c)) (λ c. refl)
      (range_with_len 0 (length rows)),
  length-range_with_len 0 (length rows),
)

-- A list passes a test at no more places than it has.
pub passing_few : (p : ℕ → Bool) (xs : List ℕ) → length (filter p xs) ≤ length xs
passing_few p xs = omega (arith, length-filter_both p (λ x. not (p x)) (λ x. refl) xs)

-- The weights of the groups that pass, added up.
pub weights_active : (rows : List Row) (most xs : List ℕ)
    → sum_by (weight_if_active rows most) xs ≡ sum_by (weight_of rows) (filter (is_active most) xs)
weights_active rows most [] = refl
weights_active rows most (x ∷ xs) =
    sum_by-cons (weight_if_active rows most) x xs
    ∙ (elim (is_active most x) as (λ b. cond b (weight_of rows x) 0
    + sum_by (weight_if_active rows most) xs
    ≡ sum_by (weight_of rows) (cond b (x ∷ filter (is_active most) xs) (filter (is_active most) xs))) [
      | true ↦ ap (λ n. weight_of rows x + n) (weights_active rows most xs)
          ∙ sym (sum_by-cons (weight_of rows) x (filter (is_active most) xs))
      | false ↦ omega (arith, weights_active rows most xs)
    ])

-- a weight or 0
light : (b : Bool) (w : ℕ) → w ≤ MAX_WEIGHT → cond b w 0 ≤ MAX_WEIGHT
light true w le = le
light false w le = omega arith

-- The weights of a group's children that pass fit a word.
pub weights_fit : (groups : Groups) → IsInstance groups → (most : List ℕ) (g : ℕ)
    → sum_by (weight_if_active groups.rows most) (children_of groups.rows g)
    ≤ MAX_GROUPS * MAX_WEIGHT
weights_fit groups valid most g =
    let few : length (children_of groups.rows g) ≤ MAX_GROUPS =
    omega (arith, children_few groups.rows g, valid.few) in
    let small : sum_by (weight_if_active groups.rows most) (children_of groups.rows g)
    ≤ length (children_of groups.rows g) * MAX_WEIGHT =
    sum_by-le (weight_if_active groups.rows most) MAX_WEIGHT (children_of groups.rows g)
    (All-from_get_or (λ c. weight_if_active groups.rows most c ≤ MAX_WEIGHT)
    (children_of groups.rows g) 0
    (λ k below. light (is_active most (get_or (children_of groups.rows g) k 0))
    (weight_of groups.rows (get_or (children_of groups.rows g) k 0))
    (valid.weights (get_or (children_of groups.rows g) k 0)
    (child_at groups.rows g k below).within).1)) in
    omega (arith, small, few)

-- What holds at each place, and of one entry more at its place, holds with that entry pushed.
pub pushed : {X : Type 0} (P : ℕ → X → Type 0) (xs ys : List X) (y d : X) (n : ℕ)
    → ys ≡ xs ++ y ∷ [] → length xs ≡ n → ((k : ℕ) → k < n → P k (get_or xs k d)) → P n y
    → (k : ℕ) → k < n + 1 → P k (get_or ys k d)
pushed P xs ys y d n is long each last k below =
    subst (λ zs. P k (get_or zs k d)) (sym is)
    (elim (cases_eq k n) [
      | inl here ↦ subst (λ j. P j (get_or (xs ++ y ∷ []) j d)) (sym here)
          (subst (P n) (sym (get_or_push xs y d n long)) last)
      | inr other ↦
          let before : k < n = omega (arith, below, other) in
          subst (P k)
          (sym (get_or_append_left xs (y ∷ []) d k (omega (arith, before, long))))
          (each k before)
    ])

-- a list with the right number for each of the first rows
pub record AreFirst (number_of : ℕ → ℕ) (n : ℕ) (xs : List ℕ) : Type 0 where
  pub one_each : length xs ≡ n
  pub each : (k : ℕ) → k < n → get_or xs k 0 ≡ number_of k

-- the number of a group's active children
abbrev pub active_number : Groups → List ℕ → ℕ → ℕ
active_number groups most g = length (active_children groups.rows most g)

-- the slices that a group's limit withholds
abbrev pub withheld_of : Groups → List ℕ → ℕ → ℕ
withheld_of groups most g =
    withheld_slices (parent_of groups.rows g) (row_of groups.rows g).limit (want_of groups most g)

-- the figures of the first rows
pub record AreFirstFigures (groups : Groups) (most : List ℕ) (n : ℕ)
    (active weights withheld : List ℕ) : Type 0 where
  pub children : AreFirst (active_number groups most) n active
  pub weights_are : AreFirst (active_weight_of groups.rows most) n weights
  pub slices : AreFirst (withheld_of groups most) n withheld

-- None are the figures of no rows.
pub none_first : (number_of : ℕ → ℕ) (xs : List ℕ) → xs ≡ [] → AreFirst number_of 0 xs
none_first number_of xs is = record {
  one_each = ap (length {A = ℕ}) is;
  each = λ k below. absurd (omega (arith, below));
}

-- One more number is that of the next row.
pub one_more : (number_of : ℕ → ℕ) (n : ℕ) (xs ys : List ℕ) (y : ℕ) → AreFirst number_of n xs
    → ys ≡ xs ++ y ∷ [] → y ≡ number_of n → AreFirst number_of (n + 1) ys
one_more number_of n xs ys y so_far is number = record {
  one_each = ap (length {A = ℕ}) is ∙ length_push xs y ∙ ap (λ k. k + 1) so_far.one_each;
  each = pushed (λ k x. x ≡ number_of k) xs ys y 0 n is so_far.one_each so_far.each number;
}

-- Those of all rows are the figures.
pub all_figures : (groups : Groups) (most : List ℕ) (n : ℕ) (active weights withheld : List ℕ)
    → AreFirstFigures groups most n active weights withheld → n ≡ length groups.rows
    → AreFigures groups most active weights withheld
all_figures groups most n active weights withheld so_far all = record {
  active_each = so_far.children.one_each ∙ all;
  weights_each = so_far.weights_are.one_each ∙ all;
  withheld_each = so_far.slices.one_each ∙ all;
  children = λ g below. so_far.children.each g (omega (arith, below, all));
  weights = λ g below. so_far.weights_are.each g (omega (arith, below, all));
  slices = λ g below. so_far.slices.each g (omega (arith, below, all));
}
