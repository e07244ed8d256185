-- Rows of one tree that differ in their demands alone, and the instance that they make.
use Rattle.std.proofs.Common.{◌≡◌, ℕ, zero, suc, ◌<◌, ◌≤◌, List, Some, false, length, ap}
use Rattle.std.proofs.Common.{refl}
use Rattle.std.proofs.Common.{sym, ◌∙◌, arith, inl, inr}
use Rattle.std.proofs.lemmas.Bool.{cases_lt}
use Rattle.std.proofs.lemmas.List.{get_or_past}
use Rattle.bw_model.specs.declared.row.Row.{Row}
use Rattle.bw_model.specs.declared.limits.TheConstants.{MAX_DEMAND}
use Rattle.bw_model.specs.Groups.{Groups, IsInstance, AreTreeRows, no_row, parent_of, row_of}
use Rattle.bw_model.specs.Groups.{weight_of, demand_of, limit_of, is_leaf}
use Rattle.bw_questions.specs.changes.Tree.{IsSameTree}
use Rattle.bw_questions.proofs.changes.Trees.{leaf_same, depth_same}

-- As many rows, alike but for their demands.
pub record AreAlike (rows others : List Row) : Type 0 where
  pub one_each : length others ≡ length rows
  pub parents : (g : ℕ) → g < length rows → parent_of others g ≡ parent_of rows g
  pub weights : (g : ℕ) → g < length rows → weight_of others g ≡ weight_of rows g
  pub limits : (g : ℕ) → g < length rows → (row_of others g).limit ≡ (row_of rows g).limit

-- Behind the last row two lists of one length agree.
pub everywhere : {A : Type 0} (rows others : List Row) → length others ≡ length rows → (f : Row → A)
    → ((g : ℕ) → g < length rows → f (row_of others g) ≡ f (row_of rows g))
    → (g : ℕ) → f (row_of others g) ≡ f (row_of rows g)
everywhere rows others long f same g = elim (cases_lt g (length rows)) [
  | inl within ↦ same g within
  | inr past ↦
      ap f (get_or_past others g no_row (omega (arith, past, long)))
      ∙ sym (ap f (get_or_past rows g no_row past))
]

module _ (rows others : List Row) (alike : AreAlike rows others) where
  pub same_tree : IsSameTree rows others
  same_tree = record {
    as_many = alike.one_each;
    parents = everywhere rows others alike.one_each (λ r. r.parent) alike.parents;
  }

  pub weights_same : (g : ℕ) → weight_of others g ≡ weight_of rows g
  weights_same = everywhere rows others alike.one_each (λ r. r.weight) alike.weights

module _ (groups : Groups) (others : List Row) (alike : AreAlike groups.rows others) where
  pub limits_same : (g : ℕ) → limit_of (record { shape = groups.shape; rows = others }) g
      ≡ limit_of groups g
  limits_same zero = refl
  limits_same (suc g) =
      everywhere groups.rows others alike.one_each (λ r. r.limit) alike.limits (suc g)

  module _ (valid : IsInstance groups) where
    inside : (g : ℕ) → g < length others → g < length groups.rows
    inside g below = omega (arith, below, alike.one_each)

    pub tree_kept : AreTreeRows others
    tree_kept = record {
      has_root = omega (arith, valid.tree.has_root, alike.one_each);
      root_on_top = alike.parents 0 valid.tree.has_root ∙ valid.tree.root_on_top;
      parent_before = λ g pos below.
          let known : (p : ℕ) × (parent_of groups.rows g ≡ Some p) × (p < g) =
          valid.tree.parent_before g pos (inside g below) in
          (known.0, alike.parents g (inside g below) ∙ known.1, known.2);
    }

    -- Leaves ask for no more than the bound, and other groups for nothing.
    pub other_demands-IsInstance : ((g : ℕ) → g < length groups.rows
        → demand_of others g ≤ MAX_DEMAND)
        → ((g : ℕ) → g < length groups.rows → is_leaf groups.rows g ≡ false
        → demand_of others g ≡ 0)
        → IsInstance (record { shape = groups.shape; rows = others })
    other_demands-IsInstance small idle = record {
      host = valid.host;
      tree = tree_kept;
      few = omega (arith, valid.few, alike.one_each);
      weights = λ g below.
          rw (alike.weights g (inside g below)) (valid.weights g (inside g below));
      shallow = λ g below.
          rw (depth_same groups.rows others valid.tree tree_kept
          (same_tree groups.rows others alike) g) (valid.shallow g (inside g below));
      inner_idle = λ g below inner.
          idle g (inside g below)
          (sym (leaf_same groups.rows others (same_tree groups.rows others alike) g) ∙ inner);
      demands = λ g below. small g (inside g below);
      root_unlimited = alike.limits 0 valid.tree.has_root ∙ valid.root_unlimited;
    }
