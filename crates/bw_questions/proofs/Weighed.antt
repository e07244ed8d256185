-- The instance that other weights make.
use Rattle.std.proofs.Common.{◌≡◌, ℕ, zero, suc, ◌<◌, ◌≤◌, List, length, get_or, refl, ap}
use Rattle.bw_model.specs.declared.row.Row.{Row}
use Rattle.bw_model.specs.Groups.{Groups, IsInstance, demand_of, weight_of, limit_of}
use Rattle.bw_questions.specs.changes.Tree.{IsSameTree}
use Rattle.bw_questions.specs.FromRoot.{AreRowWeights, weighed, weighed_row}
use Rattle.bw_questions.proofs.ChangedRows as changed

module _ (groups : Groups) (weights : List ℕ) where
  abbrev row : ℕ → Row
  row = weighed_row groups.rows weights

  pub as_many : length (weighed groups weights).rows ≡ length groups.rows
  as_many = changed.as_many groups row

  pub tree_kept : IsSameTree groups.rows (weighed groups weights).rows
  tree_kept = changed.tree_kept groups row (λ g. refl)

  pub demands_kept : (g : ℕ) → demand_of (weighed groups weights).rows g ≡ demand_of groups.rows g
  demands_kept = changed.everywhere groups row (λ r. r.demand) (λ g. refl)

  pub limits_kept : (g : ℕ) → limit_of (weighed groups weights) g ≡ limit_of groups g
  limits_kept zero = refl
  limits_kept (suc g) = changed.everywhere groups row (λ r. r.limit) (λ h. refl) (suc g)

  pub weight_at : (g : ℕ) → g < length groups.rows
      → weight_of (weighed groups weights).rows g ≡ get_or weights g 0
  weight_at g below = ap (λ (r : Row). r.weight) (changed.row_at groups row g below)

  pub weight_past : (g : ℕ) → length groups.rows ≤ g
      → weight_of (weighed groups weights).rows g ≡ weight_of groups.rows g
  weight_past g past = ap (λ (r : Row). r.weight) (changed.row_past groups row g past)

  pub weighed-IsInstance : IsInstance groups → AreRowWeights groups.rows weights
      → IsInstance (weighed groups weights)
  weighed-IsInstance valid are =
      changed.changed-IsInstance groups row (λ g. refl) (λ g. refl) valid are.in_range
      valid.root_unlimited
