-- Sums over children that are gathered from the last group up.
use Rattle.std.proofs.Common.{◌≡◌, ℕ, suc, ◌+◌, ◌<◌, ◌≤◌, List, Bool, true, false, cond, Some, None}
use Rattle.std.proofs.Common.{◌==◌, [], ◌∷◌, length, get_or, set, replicate, refl, ap, subst, sym, ◌∙◌, arith, inl, inr}
use Rattle.std.specs.Prelude.{sum_by, slice_index}
use Rattle.std.proofs.lemmas.Bool.{cases_eq, cases_lt, lt-ltb, le-ltb}
use Rattle.std.proofs.lemmas.List.{get_or-set_same, get_or-set_other, length-replicate}
use Rattle.std.proofs.lemmas.List.{get_or-replicate}
use Rattle.std.proofs.lemmas.List.Sums.{sum_by-cons}
use Rattle.std.proofs.Math.ListN.{length-set}
use Rattle.bw_model.specs.declared.row.Row.{Row}
use Rattle.bw_model.specs.Groups.{Groups, AreTreeRows, parent_of, is_child, children_of, is_leaf}
use Rattle.bw_model.specs.Certificate.{Certified, AreBounds}
use Rattle.bw_model.proofs.CallerLemmas.{is_child_from_parent, is_child_no, parent_from_is_child}
use Rattle.bw_model.proofs.CallerLemmas.{parent_lt, sum_below-zero, sum_below-ap, is_leaf-length}
use Rattle.std.proofs.lemmas.Option.{same_Some}
use Rattle.bw_check.specs.declared.fault.CheckFault.{CheckFault}
use Rattle.bw_check.specs.declared.fault.CheckFault.TheVariants.{WrongLength, OverLimit, OverDemand}
use Rattle.bw_check.specs.declared.fault.CheckFault.TheVariants.{SumDiffers, FlagWithoutLimit}
use Rattle.bw_check.specs.declared.fault.CheckFault.TheVariants.{NotGreatest, LevelMissing}
use Rattle.bw_check.specs.declared.fault.CheckFault.TheVariants.{LastMarkAbove, NextMarkNotAbove}
use Rattle.bw_check.specs.Counts.{AreGathered, bound_over, from_row, sum_of_first}
use Rattle.bw_check.specs.Verdict.{AreOnePerRow, IsFree, IsFreeRow}
use Rattle.bw_check.proofs.Gathered.{sum_below-changed, first-below, first-all}

module _ (rows : List Row) (f : ℕ → ℕ) where
  from_past : (k c : ℕ) → k ≤ c → from_row k f c ≡ f c
  from_past k c le = rw (le-ltb c k le) refl

  from_before : (k c : ℕ) → c < k → from_row k f c ≡ 0
  from_before k c lt = rw (lt-ltb c k lt) refl

  picked_zero : (b : Bool) (x : ℕ) → x ≡ 0 → cond b x 0 ≡ 0
  picked_zero true x e = e
  picked_zero false x e = refl

  -- no row is passed
  pub up_none : (table : List ℕ) → table ≡ replicate (length rows) 0
      → AreGathered rows (from_row (length rows) f) (length rows) table
  up_none table e = record {
    one_each = rw e (length-replicate (length rows) 0);
    each = λ g below. rw e (get_or-replicate (length rows) g 0 0 below)
        ∙ sym (first-below rows (from_row (length rows) f) (length rows) g
        ∙ sum_below-zero (length rows) _ (λ c within.
        picked_zero (is_child rows g c) _ (from_before (length rows) c within)));
  }

  -- with the row k, its term is added at its parent
  with_row : (k g : ℕ) → k < length rows
      → sum_of_first rows (from_row k f) (length rows) g
      ≡ sum_of_first rows (from_row (suc k) f) (length rows) g + cond (is_child rows g k) (f k) 0
  with_row k g within =
      first-below rows (from_row k f) (length rows) g
      ∙ sum_below-changed (length rows) k (cond (is_child rows g k) (f k) 0) _ _ within
      (λ j other. ap (λ x. cond (is_child rows g j) x 0) (same j other))
      (rw (from_past k k (omega arith), from_before (suc k) k (omega arith))
      (picked (is_child rows g k) (f k)))
      ∙ ap (λ x. x + cond (is_child rows g k) (f k) 0)
      (sym (first-below rows (from_row (suc k) f) (length rows) g))
    where
      picked : (b : Bool) (x : ℕ) → cond b x 0 ≡ cond b 0 0 + cond b x 0
      picked true x = omega arith
      picked false x = omega arith

      same : (j : ℕ) → (j ≡ k → ⊥) → from_row k f j ≡ from_row (suc k) f j
      same j other = elim (cases_lt j k) [
        | inl lt ↦ from_before k j lt ∙ sym (from_before (suc k) j (omega arith))
        | inr ge ↦ from_past k j ge ∙ sym (from_past (suc k) j (omega (arith, other)))
      ]

  module _ (m k : ℕ) (table : List ℕ) (next : m ≡ suc k) (within : k < length rows)
      (so_far : AreGathered rows (from_row m f) (length rows) table) where
    before : (g : ℕ) → g < length rows
        → get_or table g 0 ≡ sum_of_first rows (from_row (suc k) f) (length rows) g
    before g lt = so_far.each g lt
        ∙ ap (λ x. sum_of_first rows (from_row x f) (length rows) g) next

    pub up_top : parent_of rows k ≡ None → AreGathered rows (from_row k f) (length rows) table
    up_top none = record {
      one_each = so_far.one_each;
      each = λ g lt. before g lt ∙ sym (with_row k g within
          ∙ (let no_child : is_child rows g k ≡ false =
          is_child_no rows g k (λ e. let clash : None ≡ Some g = sym none ∙ e in cc) in
          rw no_child (omega arith)));
    }

    pub up_child : (p : ℕ) → parent_of rows k ≡ Some p → p < length rows
        → AreGathered rows (from_row k f) (length rows) (set table p (get_or table p 0 + f k))
    up_child p up there = record {
      one_each = length-set table p (get_or table p 0 + f k) ∙ so_far.one_each;
      each = λ g lt. elim (cases_eq g p) [
        | inl same ↦ rw (
          same,
          get_or-set_same table p (get_or table p 0 + f k) 0
              (omega (arith, so_far.one_each)),
        )
            (ap (λ x. x + f k) (before p there)
            ∙ sym (with_row k p within ∙ rw (is_child_from_parent rows p k up) refl))
        | inr other ↦ rw (get_or-set_other table p g (get_or table p 0 + f k) 0 other)
            (before g lt ∙ sym (with_row k g within
            ∙ (let no_child : is_child rows g k ≡ false =
            is_child_no rows g k (λ e. other (sym (same_Some p g (sym up ∙ e)))) in
            rw no_child (omega arith))))
      ];
    }

    -- all children of the row k are passed
    pub up_here : AreTreeRows rows → get_or table k 0 ≡ sum_by f (children_of rows k)
    up_here tree =
        before k within ∙ first-below rows (from_row (suc k) f) (length rows) k
        ∙ sum_below-ap (length rows) _ _ each
        ∙ sym (first-below rows f (length rows) k) ∙ first-all rows f k
      where
        picked : (c : ℕ) (b : Bool) → is_child rows k c ≡ b
            → cond b (from_row (suc k) f c) 0 ≡ cond b (f c) 0
        picked c false e = refl
        picked c true e =
            from_past (suc k) c (let later : k < c =
            parent_lt rows tree c k (parent_from_is_child rows k c e) in omega arith)

        each : (c : ℕ) → c < length rows → cond (is_child rows k c) (from_row (suc k) f c) 0
            ≡ cond (is_child rows k c) (f c) 0
        each c lt = picked c (is_child rows k c) refl

-- The groups from row k on are free of faults, whatever bounds the flags give. The table has the
-- sums of their bounds.
pub record AreFreeFrom (groups : Groups) (amounts : List ℕ) (certificate : Certified) (k : ℕ)
    (table : List ℕ) : Type 0 where
  pub one_each : length table ≡ length groups.rows
  pub summed : (bounds : List ℕ) → AreBounds groups certificate bounds
      → AreGathered groups.rows (from_row k (slice_index bounds)) (length groups.rows) table
  pub free : (bounds : List ℕ) → AreBounds groups certificate bounds → (g : ℕ) → k ≤ g
      → g < length groups.rows → IsFreeRow groups amounts certificate g (get_or bounds g 0)

module _ (groups : Groups) (amounts : List ℕ) (certificate : Certified) where
  pub free_none : (table : List ℕ) → table ≡ replicate (length groups.rows) 0
      → AreFreeFrom groups amounts certificate (length groups.rows) table
  free_none table e = record {
    one_each = rw e (length-replicate (length groups.rows) 0);
    summed = λ bounds are. up_none groups.rows (slice_index bounds) table e;
    free = λ bounds are g above below. absurd (omega (arith, above, below));
  }

  module _ (tree : AreTreeRows groups.rows) (m k v : ℕ) (table : List ℕ) (next : m ≡ suc k)
      (within : k < length groups.rows) (so_far : AreFreeFrom groups amounts certificate m table)
      (bound_is : v ≡ bound_over groups certificate (get_or table k 0) k)
      (here : IsFreeRow groups amounts certificate k v) where
    same_bound : (bounds : List ℕ) → AreBounds groups certificate bounds → v ≡ get_or bounds k 0
    same_bound bounds are =
        bound_is
        ∙ ap (λ (x : ℕ). bound_over groups certificate x k)
        (up_here groups.rows (slice_index bounds) m k table next within (so_far.summed bounds are)
        tree)
        ∙ sym (are.each k within)

    free_too : (bounds : List ℕ) → AreBounds groups certificate bounds → (g : ℕ) → k ≤ g
        → g < length groups.rows → IsFreeRow groups amounts certificate g (get_or bounds g 0)
    free_too bounds are g above below = elim (cases_eq g k) [
      | inl same ↦ rw same (subst (λ (x : ℕ). IsFreeRow groups amounts certificate k x)
          (same_bound bounds are) here)
      | inr other ↦ so_far.free bounds are g (omega (arith, other, above, next)) below
    ]

    pub free_top : parent_of groups.rows k ≡ None
        → AreFreeFrom groups amounts certificate k table
    free_top none = record {
      one_each = so_far.one_each;
      summed = λ bounds are. up_top groups.rows (slice_index bounds) m k table next within
          (so_far.summed bounds are) none;
      free = free_too;
    }

    pub free_child : (p : ℕ) → parent_of groups.rows k ≡ Some p → p < length groups.rows
        → AreFreeFrom groups amounts certificate k (set table p (get_or table p 0 + v))
    free_child p up there = record {
      one_each = length-set table p (get_or table p 0 + v) ∙ so_far.one_each;
      summed = λ bounds are.
          subst (λ (x : ℕ). AreGathered groups.rows (from_row k (slice_index bounds))
          (length groups.rows) (set table p (get_or table p 0 + x)))
          (sym (same_bound bounds are))
          (up_child groups.rows (slice_index bounds) m k table next within
          (so_far.summed bounds are) p up there);
      free = free_too;
    }

  -- all groups are free of all faults
  pub free_all : AreTreeRows groups.rows → AreOnePerRow groups.rows amounts certificate
      → (table : List ℕ) → AreFreeFrom groups amounts certificate 0 table
      → (bounds : List ℕ) → AreBounds groups certificate bounds → (fault : CheckFault) (g : ℕ)
      → g < length groups.rows → IsFree groups amounts certificate bounds fault g
  free_all tree each table free bounds are WrongLength g below = each
  free_all tree each table free bounds are OverLimit g below =
      (free.free bounds are g (omega arith) below).within_limit
  free_all tree each table free bounds are OverDemand g below =
      (free.free bounds are g (omega arith) below).within_demand
  free_all tree each table free bounds are SumDiffers g below =
      (free.free bounds are g (omega arith) below).summed
  free_all tree each table free bounds are FlagWithoutLimit g below =
      (free.free bounds are g (omega arith) below).flag_limited
  free_all tree each table free bounds are NotGreatest g below =
      (free.free bounds are 0 (omega arith) tree.has_root).greatest refl
  free_all tree each table free bounds are LevelMissing g below =
      (free.free bounds are g (omega arith) below).has_level
  free_all tree each table free bounds are LastMarkAbove g below =
      (free.free bounds are g (omega arith) below).last_kept
  free_all tree each table free bounds are NextMarkNotAbove g below =
      (free.free bounds are g (omega arith) below).next_kept

ones : (xs : List ℕ) → sum_by (λ _. 1) xs ≡ length xs
ones [] = refl
ones (x ∷ xs) = sum_by-cons (λ (_ : ℕ). 1) x xs ∙ omega (arith, ones xs)

-- a group is a leaf if it has none of the children that are counted
pub counted-is_leaf : (rows : List Row) (children : List ℕ) (g read : ℕ) → g < length rows
    → AreGathered rows (λ _. 1) (length rows) children → read ≡ get_or children g 0
    → read == 0 ≡ is_leaf rows g
counted-is_leaf rows children g read within counted is =
    let count : read ≡ length (children_of rows g) =
    is ∙ counted.each g within ∙ first-all rows (λ _. 1) g ∙ ones (children_of rows g) in
    ap (λ (n : ℕ). n == 0) count ∙ is_leaf-length rows g
