-- The most of each group by the rule that finds it.
use Rattle.std.proofs.Common.{◌≡◌, ℕ, zero, suc, ◌+◌, ◌<◌, ◌≤◌, List, cond, length, get_or, refl}
use Rattle.std.proofs.Common.{ap, sym, ◌∙◌, arith}
use Rattle.std.specs.Prelude.{sum_by, slice_index, map}
use Rattle.std.specs.List.{range_with_len}
use Rattle.std.proofs.lemmas.List.FromFn.{get_or-map-range_with_len}
use Rattle.bw_model.specs.Groups.{Groups, AreTreeRows, children_of, is_leaf, limit_of, demand_of}
use Rattle.bw_model.specs.Allocation.{IsMost}
use Rattle.bw_model.specs.Demand.{AreMaxTotals, want_of}
use Rattle.bw_model.proofs.tree.Under.{parent_lt}
use Rattle.bw_model.proofs.plan.Bounds.{children-ap}
use Rattle.bw_model.proofs.allocation.Reach.{capped, capped-IsMost}

pub IsMost-unique : (groups : Groups) (g one two : ℕ) → IsMost groups g one → IsMost groups g two
    → one ≡ two
IsMost-unique groups g one two is_one is_two =
    let up : one ≤ two =
    rw is_one.reached.2 at (is_two.none_more is_one.reached.0 is_one.reached.1) in
    let down : two ≤ one =
    rw is_two.reached.2 at (is_one.none_more is_two.reached.0 is_two.reached.1) in
    omega (arith, up, down)

module _ (groups : Groups) (tree : AreTreeRows groups.rows) where
  -- the most of a group by so many rows below it
  most_within : ℕ → ℕ → ℕ
  most_within zero g = 0
  most_within (suc n) g = capped (limit_of groups g)
      (cond (is_leaf groups.rows g) (demand_of groups.rows g)
      (sum_by (most_within n) (children_of groups.rows g)))

  most_within-enough : (n m g : ℕ) → g < length groups.rows → length groups.rows ≤ g + n
      → length groups.rows ≤ g + m → most_within n g ≡ most_within m g
  unfolding most_within
  most_within-enough zero m g below one two = absurd (omega arith)
  most_within-enough (suc n) zero g below one two = absurd (omega arith)
  most_within-enough (suc n) (suc m) g below one two =
      ap (λ (s : ℕ). capped (limit_of groups g)
      (cond (is_leaf groups.rows g) (demand_of groups.rows g) s))
      (children-ap groups.rows (most_within n) (most_within m) g (λ c here e.
      let after : g < c = parent_lt groups.rows tree c g e in
      most_within-enough n m c here (omega arith) (omega arith)))

  pub mosts : List ℕ
  mosts = map (most_within (length groups.rows)) (range_with_len 0 (length groups.rows))

  mosts_at : (g : ℕ) → g < length groups.rows
      → get_or mosts g 0 ≡ most_within (length groups.rows) g
  unfolding mosts
  mosts_at g below = get_or-map-range_with_len (most_within (length groups.rows)) 0
      (length groups.rows) g g 0 below (omega arith)

  want_of-ap : (some others : List ℕ) (g : ℕ)
      → ((c : ℕ) → c < length groups.rows → get_or some c 0 ≡ get_or others c 0)
      → want_of groups some g ≡ want_of groups others g
  want_of-ap some others g same =
      ap (λ (s : ℕ). cond (is_leaf groups.rows g) (demand_of groups.rows g) s)
      (children-ap groups.rows (slice_index some) (slice_index others) g (λ c here e. same c here))

  most_within-more : (n g : ℕ) → most_within (suc n) g ≡ capped (limit_of groups g)
      (cond (is_leaf groups.rows g) (demand_of groups.rows g)
      (sum_by (most_within n) (children_of groups.rows g)))
  unfolding most_within
  most_within-more n g = refl

  pub mosts-capped : (g : ℕ) → g < length groups.rows
      → get_or mosts g 0 ≡ capped (limit_of groups g) (want_of groups mosts g)
  mosts-capped g below =
      mosts_at g below
      ∙ most_within-enough (length groups.rows) (suc (length groups.rows)) g below (omega arith)
      (omega arith)
      ∙ most_within-more (length groups.rows) g
      ∙ ap (λ (s : ℕ). capped (limit_of groups g)
      (cond (is_leaf groups.rows g) (demand_of groups.rows g) s))
      (children-ap groups.rows (most_within (length groups.rows)) (slice_index mosts) g
      (λ c here e. sym (mosts_at c here)))

  -- the rule by which the most of each group is found
  pub AreMaxTotals-capped : (most : List ℕ) → AreMaxTotals groups most →
      (g : ℕ) → g < length groups.rows
      → get_or most g 0 ≡ capped (limit_of groups g) (want_of groups most g)
  AreMaxTotals-capped most known g below =
      same g below ∙ mosts-capped g below
      ∙ ap (capped (limit_of groups g)) (sym (want_of-ap most mosts g same))
    where
      same : (g : ℕ) → g < length groups.rows → get_or most g 0 ≡ get_or mosts g 0
      same g below = IsMost-unique groups g (get_or most g 0) (get_or mosts g 0)
          (known.each g below) (capped-IsMost groups tree mosts mosts-capped g below)
