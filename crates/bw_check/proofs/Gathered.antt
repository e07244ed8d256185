-- Sums over the children seen so far, gathered in a table.
use Rattle.std.proofs.Common.{◌≡◌, ℕ, zero, suc, ◌+◌, ◌*◌, ◌<◌, ◌≤◌, List, Bool, true, false, cond}
use Rattle.std.proofs.Common.{Some, None, length, get_or, set, replicate, add-one, refl}
use Rattle.std.proofs.Common.{ap, sym, ◌∙◌, arith, inl, inr}
use Rattle.std.specs.Prelude.{sum_by}
use Rattle.std.proofs.lemmas.Bool.{cases_eq}
use Rattle.std.proofs.lemmas.List.{get_or-set_same, get_or-set_other, length-replicate}
use Rattle.std.proofs.lemmas.List.{get_or-replicate}
use Rattle.std.proofs.Math.ListN.{length-set}
use Rattle.std.proofs.lemmas.Grind.{get_or_default_zero}
use Rattle.bw_model.specs.declared.row.Row.{Row}
use Rattle.bw_model.specs.Groups.{parent_of, is_child, children_of}
use Rattle.bw_model.proofs.CallerLemmas.{is_child_from_parent, is_child_no, sum_by-children}
use Rattle.bw_model.proofs.CallerLemmas.{sum_below, sum_by-range}
use Rattle.std.proofs.lemmas.Option.{same_Some}
use Rattle.bw_model.specs.Certificate.{sibling_place}
use Rattle.bw_check.specs.Counts.{sum_of_first, AreGathered, ArePlaces}

-- a sum with one changed term
pub sum_below-changed : (n i d : ℕ) (f h : ℕ → ℕ) → i < n → ((j : ℕ) → (j ≡ i → ⊥) → f j ≡ h j)
    → f i ≡ h i + d →
    sum_below n f ≡ sum_below n h + d
sum_below-changed zero i d f h below other here = absurd (omega arith)
sum_below-changed (suc n) i d f h below other here = elim (cases_eq n i) [
  | inl same ↦
      let front : sum_below n f ≡ sum_below n h =
      front_same n (λ j lt. other j (λ e. omega arith)) in
      let last : f n ≡ h n + d = rw same here in
      omega (arith, front, last)
  | inr apart ↦
      let front : sum_below n f ≡ sum_below n h + d =
      sum_below-changed n i d f h (omega (arith, apart)) other here in
      let last : f n ≡ h n = other n apart in
      omega (arith, front, last)
]
  where
    front_same : (m : ℕ) → ((j : ℕ) → j < m → f j ≡ h j) → sum_below m f ≡ sum_below m h
    front_same zero e = refl
    front_same (suc m) e =
        omega (arith, front_same m (λ j lt. e j (omega arith)), e m (omega arith))

module _ (rows : List Row) (f : ℕ → ℕ) where
  pub first-below : (n g : ℕ) → sum_of_first rows f n g
      ≡ sum_below n (λ c. cond (is_child rows g c) (f c) 0)
  first-below n g = sum_by-range (λ c. cond (is_child rows g c) (f c) 0) n

  pub first-more : (n g : ℕ) → sum_of_first rows f (n + 1) g
      ≡ sum_of_first rows f n g + cond (is_child rows g n) (f n) 0
  first-more n g =
      let one : sum_of_first rows f (n + 1) g
      ≡ sum_below (suc n) (λ c. cond (is_child rows g c) (f c) 0) =
      rw (add-one) (first-below (suc n) g) in
      omega (arith, one, first-below n g)

  -- the parent's sum grows by the child's term, and no other does
  pub first-child : (n p g : ℕ) → parent_of rows n ≡ Some p → (g ≡ p → ⊥)
      → sum_of_first rows f (n + 1) g ≡ sum_of_first rows f n g
  first-child n p g up other =
      let no_child : is_child rows g n ≡ false =
      is_child_no rows g n (λ e. other (sym (same_Some p g (sym up ∙ e)))) in
      first-more n g ∙ rw no_child (omega arith)

  pub first-parent : (n p : ℕ) → parent_of rows n ≡ Some p
      → sum_of_first rows f (n + 1) p ≡ sum_of_first rows f n p + f n
  first-parent n p up = first-more n p ∙ rw (is_child_from_parent rows p n up) refl

  pub first-top : (n g : ℕ) → parent_of rows n ≡ None
      → sum_of_first rows f (n + 1) g ≡ sum_of_first rows f n g
  first-top n g none =
      let no_child : is_child rows g n ≡ false =
      is_child_no rows g n (λ e. let clash : None ≡ Some g = sym none ∙ e in cc) in
      first-more n g ∙ rw no_child (omega arith)

  -- as many terms as groups, each at most m
  pub first-le : (m n g : ℕ) → ((c : ℕ) → c < n → f c ≤ m) → sum_of_first rows f n g ≤ n * m
  first-le m n g small = rw (first-below n g) (below_le n small)
    where
      picked : (b : Bool) (x : ℕ) → x ≤ m → cond b x 0 ≤ m
      picked true x h = h
      picked false x h = omega arith

      below_le : (k : ℕ) → ((c : ℕ) → c < k → f c ≤ m)
          → sum_below k (λ c. cond (is_child rows g c) (f c) 0) ≤ k * m
      below_le zero h = omega arith
      below_le (suc k) h =
          omega (
            arith,
            below_le k (λ c lt. h c (omega arith)),
            picked (is_child rows g k) (f k) (h k (omega arith)),
          )

  pub gathered_none : (table : List ℕ) → table ≡ replicate (length rows) 0
      → AreGathered rows f 0 table
  gathered_none table e = record {
    one_each = rw e (length-replicate (length rows) 0);
    each = λ g below. rw e (get_or-replicate (length rows) g 0 0 below);
  }

  pub gathered_top : (n : ℕ) (table : List ℕ) → parent_of rows n ≡ None → AreGathered rows f n table
      → AreGathered rows f (n + 1) table
  gathered_top n table none so_far = record {
    one_each = so_far.one_each;
    each = λ g below. so_far.each g below ∙ sym (first-top n g none);
  }

  pub gathered_child : (n p v : ℕ) (table : List ℕ) → parent_of rows n ≡ Some p → p < length rows
      → v ≡ get_or table p 0 + f n →
      AreGathered rows f n table → AreGathered rows f (n + 1) (set table p v)
  gathered_child n p v table up within is so_far = record {
    one_each = length-set table p v ∙ so_far.one_each;
    each = λ g below. elim (cases_eq g p) [
      | inl same ↦ rw (same, get_or-set_same table p v 0 (omega (arith, so_far.one_each)))
          (is ∙ ap (λ x. x + f n) (so_far.each p within) ∙ sym (first-parent n p up))
      | inr other ↦ rw (get_or-set_other table p g v 0 other)
          (so_far.each g below ∙ sym (first-child n p g up other))
    ];
  }

-- all rows seen, it is the sum over the children
pub first-all : (rows : List Row) (f : ℕ → ℕ) (g : ℕ)
    → sum_of_first rows f (length rows) g ≡ sum_by f (children_of rows g)
first-all rows f g = first-below rows f (length rows) g ∙ sym (sum_by-children rows f g)

-- a place is a count of earlier siblings
place-first : (rows : List Row) (g c : ℕ) → sibling_place rows g c ≡ sum_of_first rows (λ _. 1) c g
unfolding sibling_place
place-first rows g c = refl

module _ (rows : List Row) (n : ℕ) (places : List ℕ) (so_far : ArePlaces rows n places) where
  pub placed_top : parent_of rows n ≡ None → ArePlaces rows (n + 1) places
  placed_top none = record {
    one_each = so_far.one_each;
    each = λ c g below up. elim (cases_eq c n) [
      | inl same ↦ absurd (let here : parent_of rows n ≡ Some g = rw same at up in
          let clash : None ≡ Some g = sym none ∙ here in cc)
      | inr other ↦ so_far.each c g (omega (arith, other)) up
    ];
  }

  -- the place of a child is the number of its siblings so far
  pub placed_child : (children : List ℕ) (p q : ℕ) → AreGathered rows (λ _. 1) n children
      → parent_of rows n ≡ Some p → p < length rows → n < length rows →
      q ≡ get_or children p 0 → ArePlaces rows (n + 1) (set places n q)
  placed_child children p q counted up within here q_is = record {
    one_each = length-set places n q ∙ so_far.one_each;
    each = λ c g below above. elim (cases_eq c n) [
      | inl same ↦
          let above_n : parent_of rows n ≡ Some g = rw same at above in
          let parent : p ≡ g = same_Some p g (sym up ∙ above_n) in
          rw (same, get_or-set_same places n q 0 (omega (arith, so_far.one_each)), ← parent)
          (q_is ∙ counted.each p within ∙ sym (place-first rows p n))
      | inr other ↦
          rw (get_or-set_other places n c q 0 other) (so_far.each c g (omega (arith, other)) above)
    ];
  }

-- A row that was visited has its parent in the table.
pub read_parent : (rows : List Row) (sums : List ℕ) (count c p read : ℕ) → p < c → c < count
    → count ≡ length rows → length sums ≡ length rows → read ≡ get_or sums p read
    → (p < length rows) × (read ≡ get_or sums p 0)
read_parent rows sums count c p read before below all one_each is = (
  omega (arith, before, below, all),
  is ∙ get_or_default_zero sums p read (omega (arith, before, below, all, one_each)),
)
