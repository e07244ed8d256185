-- The instance that other rows of the same parents and demands make.
use Rattle.std.proofs.Common.{◌≡◌, ℕ, ◌<◌, ◌≤◌, length, ap, sym, ◌∙◌, arith, inl, inr}
use Rattle.std.proofs.Common.{Some, None}
use Rattle.std.specs.Prelude.{map}
use Rattle.std.specs.List.{range_with_len}
use Rattle.std.proofs.lemmas.Bool.{cases_lt}
use Rattle.std.proofs.lemmas.List.{get_or_past}
use Rattle.std.proofs.lemmas.List.FromFn.{get_or-map-range_with_len, length-map-range_with_len}
use Rattle.bw_model.specs.declared.limits.TheConstants.{MIN_WEIGHT, MAX_WEIGHT}
use Rattle.bw_model.specs.declared.row.Row.{Row}
use Rattle.bw_model.specs.Groups.{Groups, IsInstance, AreTreeRows, no_row, parent_of, row_of}
use Rattle.bw_model.specs.Groups.{demand_of}
use Rattle.bw_questions.specs.changes.Tree.{IsSameTree}
use Rattle.bw_questions.proofs.changes.Trees.{depth_same, leaf_same}

-- the groups with these rows, one in place of each
abbrev pub changed : Groups → (ℕ → Row) → Groups
changed groups row = record {
  shape = groups.shape;
  rows = map row (range_with_len 0 (length groups.rows));
}

module _ (groups : Groups) (row : ℕ → Row) where
  pub as_many : length (changed groups row).rows ≡ length groups.rows
  as_many = length-map-range_with_len row 0 (length groups.rows)

  pub row_at : (g : ℕ) → g < length groups.rows → row_of (changed groups row).rows g ≡ row g
  row_at g below =
      get_or-map-range_with_len row 0 (length groups.rows) g g no_row below (omega arith)

  pub row_past : (g : ℕ) → length groups.rows ≤ g
      → row_of (changed groups row).rows g ≡ row_of groups.rows g
  row_past g past =
      get_or_past (changed groups row).rows g no_row (omega (arith, past, as_many))
      ∙ sym (get_or_past groups.rows g no_row past)

  -- A field that all rows keep is equal, past the last row too.
  pub everywhere : {A : Type 0} (f : Row → A)
      → ((g : ℕ) → f (row g) ≡ f (row_of groups.rows g))
      → (g : ℕ) → f (row_of (changed groups row).rows g) ≡ f (row_of groups.rows g)
  everywhere f same g = elim (cases_lt g (length groups.rows)) [
    | inl within ↦ ap f (row_at g within) ∙ same g
    | inr past ↦ ap f (row_past g past)
  ]

  module _ (parents : (g : ℕ) → (row g).parent ≡ parent_of groups.rows g) where
    pub tree_kept : IsSameTree groups.rows (changed groups row).rows
    tree_kept = record { as_many = as_many; parents = everywhere (λ r. r.parent) parents }

    module _ (demands : (g : ℕ) → (row g).demand ≡ demand_of groups.rows g)
        (valid : IsInstance groups) where
      inside : (g : ℕ) → g < length (changed groups row).rows → g < length groups.rows
      inside g below = omega (arith, below, as_many)

      is_tree : AreTreeRows (changed groups row).rows
      is_tree = record {
        has_root = omega (arith, valid.tree.has_root, as_many);
        root_on_top = tree_kept.parents 0 ∙ valid.tree.root_on_top;
        parent_before = λ g pos below.
            let known : (p : ℕ) × (parent_of groups.rows g ≡ Some p) × (p < g) =
            valid.tree.parent_before g pos (inside g below) in
            (known.0, tree_kept.parents g ∙ known.1, known.2);
      }

      demand_kept : (g : ℕ) → demand_of (changed groups row).rows g ≡ demand_of groups.rows g
      demand_kept = everywhere (λ r. r.demand) demands

      -- With weights in their range and a root without a limit they are an instance.
      pub changed-IsInstance : ((g : ℕ) → g < length groups.rows
          → (MIN_WEIGHT ≤ (row g).weight) × ((row g).weight ≤ MAX_WEIGHT))
          → (row 0).limit ≡ None → IsInstance (changed groups row)
      changed-IsInstance weights unlimited = record {
        host = valid.host;
        tree = is_tree;
        few = omega (arith, valid.few, as_many);
        weights = λ g below.
            rw (ap (λ (r : Row). r.weight) (row_at g (inside g below)))
            (weights g (inside g below));
        shallow = λ g below.
            rw (depth_same groups.rows (changed groups row).rows valid.tree is_tree tree_kept g)
            (valid.shallow g (inside g below));
        inner_idle = λ g below inner.
            demand_kept g
            ∙ valid.inner_idle g (inside g below)
            (sym (leaf_same groups.rows (changed groups row).rows tree_kept g) ∙ inner);
        demands = λ g below. rw (demand_kept g) (valid.demands g (inside g below));
        root_unlimited = ap (λ (r : Row). r.limit) (row_at 0 valid.tree.has_root) ∙ unlimited;
      }
