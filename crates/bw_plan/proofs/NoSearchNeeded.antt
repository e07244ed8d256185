-- Splits that need no search: of nothing, and for an only child.
use Rattle.std.proofs.Common.{◌≡◌, ℕ, zero, suc, ◌<◌, ◌≤◌, List, [], ◌∷◌, true, false, Some, length}
use Rattle.std.proofs.Common.{get_or, refl, ap, sym, ◌∙◌, arith, inl, inr}
use Rattle.std.specs.Prelude.{sum, sum_by, slice_index, map}
use Rattle.std.proofs.lemmas.Bool.{cases_eq}
use Rattle.std.proofs.lemmas.Grind.{same_number_lists}
use Rattle.std.proofs.lemmas.List.{length-map}
use Rattle.std.proofs.lemmas.List.Sums.{get_or-le-sum_by}
use Rattle.bw_model.specs.declared.row.Row.{Row}
use Rattle.bw_model.specs.Groups.{Groups, parent_of, is_leaf, children_of, sum_of_children}
use Rattle.bw_model.specs.Plan.{child_weights}
use Rattle.bw_model.specs.Split.{IsBestSplit}
use Rattle.bw_plan.specs.Shared.{IsShared, AreParts, IsGiven}
use Rattle.bw_model.proofs.CallerLemmas.{sum_none, child_at, get_or-map, IsNoWorse-same}
use Rattle.bw_model.proofs.CallerLemmas.{inner_has_child, leaf_no_child, listed_child, sum-cons}

part_none : (xs : List ℕ) → sum xs ≡ 0 → (k : ℕ) → k < length xs → get_or xs k 0 ≡ 0
part_none xs e k below =
    let term : get_or xs k 0 ≤ sum xs = get_or-le-sum_by (λ n. n) xs k 0 below in
    omega (arith, term, e)

-- nothing among any siblings
none-IsBestSplit : (weights most parts : List ℕ) → length parts ≡ length most
    → ((k : ℕ) → k < length parts → get_or parts k 0 ≡ 0) →
    IsBestSplit 0 weights most parts
none-IsBestSplit weights most parts long none = record {
  split = record {
    lengths = long;
    whole = sum_none parts none;
    within = λ k below. let e : get_or parts k 0 ≡ 0 = none k below in omega (arith, e);
  };
  best = λ others split. IsNoWorse-same weights parts others
      (same_number_lists parts others (long ∙ sym split.lengths) (λ k below.
      none k below ∙ sym (part_none others split.whole k
      (omega (arith, below, long, split.lengths)))));
}

-- all to the only one
only-IsBestSplit : (weights : List ℕ) (most amount : ℕ) → amount ≤ most
    → IsBestSplit amount weights (most ∷ []) (amount ∷ [])
only-IsBestSplit weights most amount le = record {
  split = record { lengths = refl; whole = one amount; within = at_first };
  best = λ others split. IsNoWorse-same weights (amount ∷ []) others
      (same others split.lengths split.whole);
}
  where
    one : (n : ℕ) → sum (n ∷ []) ≡ n
    one n = sum-cons n [] ∙ omega arith

    at_first : (k : ℕ) → k < 1 → get_or (amount ∷ []) k 0 ≤ get_or (most ∷ []) k 0
    at_first zero below = le
    at_first (suc k) below = absurd (omega arith)

    same : (others : List ℕ) → length others ≡ 1 → sum others ≡ amount → amount ∷ [] ≡ others
    same [] e w = absurd (omega (arith, e))
    same (x ∷ []) e w = let is : x ≡ amount = sym (one x) ∙ w in cc
    same (x ∷ y ∷ zs) e w = absurd (omega (arith, e))

-- a group with nothing leaves its children with nothing
pub shared-none : (groups : Groups) (most : List ℕ) (g : ℕ) (amounts : List ℕ)
    → length amounts ≡ length groups.rows → get_or amounts g 0 ≡ 0 →
    ((c : ℕ) → c < length groups.rows → parent_of groups.rows c ≡ Some g → get_or amounts c 0 ≡ 0)
    → IsShared groups most g amounts amounts
shared-none groups most g amounts one_each nothing unshared = record {
  one_each = one_each;
  split = rw nothing
      (none-IsBestSplit (child_weights groups.rows g)
      (map (slice_index most) (children_of groups.rows g))
      (map (slice_index amounts) (children_of groups.rows g))
      (length-map (children_of groups.rows g) (slice_index amounts)
      ∙ sym (length-map (children_of groups.rows g) (slice_index most)))
      (λ k below.
      let inside : k < length (children_of groups.rows g) =
      omega (arith, below, length-map (children_of groups.rows g) (slice_index amounts)) in
      let c = child_at groups.rows g k inside in
      get_or-map (slice_index amounts) (children_of groups.rows g) k inside
      ∙ unshared (get_or (children_of groups.rows g) k 0) c.within c.parent));
  others = λ i below no'. refl;
}

sum_of_one : (f : ℕ → ℕ) (x : ℕ) → sum_by f (x ∷ []) ≡ f x
sum_of_one f x = omega arith

best_of : (weights most after : List ℕ) (c n : ℕ) (list : List ℕ) → list ≡ c ∷ []
    → get_or after c 0 ≡ n → n ≤ get_or most c 0 →
    IsBestSplit n weights (map (slice_index most) list) (map (slice_index after) list)
best_of weights most after c n list e own fits =
    rw (e, own) (only-IsBestSplit weights (get_or most c 0) n fits)

one_element : (xs : List ℕ) → length xs ≡ 1 → xs ≡ get_or xs 0 0 ∷ []
one_element [] e = absurd (omega (arith, e))
one_element (x ∷ []) e = refl
one_element (x ∷ y ∷ zs) e = absurd (omega (arith, e))

-- a group that has given out what it has, has shared it out
pub given-IsShared : (groups : Groups) (most : List ℕ) (g : ℕ) (parts before after : List ℕ)
    → is_leaf groups.rows g ≡ false →
    length before ≡ length groups.rows → get_or before g 0 ≤ sum_of_children groups.rows most g →
    ((c : ℕ) → c < length groups.rows → parent_of groups.rows c ≡ Some g → get_or before c 0 ≡ 0) →
    AreParts groups most before g parts → IsGiven groups.rows g parts before after
    → IsShared groups most g before after
given-IsShared groups most g parts before after inner one_each enough unshared are_parts given =
    elim (cases_eq (get_or before g 0) 0) [
      | inl nothing ↦
          rw (given.nothing nothing) (shared-none groups most g before one_each nothing unshared)
      | inr some ↦
          let has : 0 < get_or before g 0 = omega (arith, some) in
          elim (cases_eq (length (children_of groups.rows g)) 1) [
            | inl one ↦
                let list : children_of groups.rows g ≡ get_or (children_of groups.rows g) 0 0 ∷ [] =
                one_element (children_of groups.rows g) one in
                let whole : sum_of_children groups.rows most g
                ≡ get_or most (get_or (children_of groups.rows g) 0 0) 0 =
                ap (sum_by (slice_index most)) list
                ∙ sum_of_one (slice_index most) (get_or (children_of groups.rows g) 0 0) in
                record {
                  one_each = given.one_each ∙ one_each;
                  split = best_of (child_weights groups.rows g) most after
                      (get_or (children_of groups.rows g) 0 0) (get_or before g 0)
                      (children_of groups.rows g) list
                      (given.only has (get_or (children_of groups.rows g) 0 0) list)
                      (omega (arith, enough, whole));
                  others = λ i _ no'. given.others i no';
                }
            | inr many ↦
                let child : (c : ℕ) × (c < length groups.rows)
                × (parent_of groups.rows c ≡ Some g) =
                inner_has_child groups.rows g inner in
                let place : (k : ℕ) × (k < length (children_of groups.rows g))
                × (get_or (children_of groups.rows g) k 0 ≡ child.0) =
                listed_child groups.rows g child.0 child.1 child.2 in
                let two : 1 < length (children_of groups.rows g) = omega (arith, many, place.1) in
                record {
                  one_each = given.one_each ∙ one_each;
                  split = rw (given.among has two) (are_parts has two);
                  others = λ i _ no'. given.others i no';
                }
          ]
    ]

-- a leaf gives out nothing
pub given-leaf : (rows : List Row) (g : ℕ) (parts before after : List ℕ) → is_leaf rows g ≡ true
    → length before ≡ length rows →
    IsGiven rows g parts before after → after ≡ before
given-leaf rows g parts before after leaf one_each given =
    same_number_lists after before given.one_each
    (λ k below. given.others k
    (leaf_no_child rows g k leaf (omega (arith, below, given.one_each, one_each))))
