-- Guarantees: the least amount of a group, whatever the others ask for.
use Rattle.std.specs.Prelude.{◌≡◌, ℕ, ◌<◌, ◌≤◌, List, true, length, slice_index}
use Rattle.bw_model.specs.Groups.{Groups, IsInstance, weight_of, demand_of, limit_of, is_under}
use Rattle.bw_model.specs.Plan.{IsPlan}
use Rattle.bw_questions.specs.changes.Tree.{IsSameTree}

-- An instance that differs from another in demands alone, and in none of a group and below it.
pub record IsAskedOtherwise (groups others : Groups) (group : ℕ) : Type 0 where
  pub valid : IsInstance others
  pub tree : IsSameTree groups.rows others.rows
  pub weights : (h : ℕ) → weight_of others.rows h ≡ weight_of groups.rows h
  pub limits : (h : ℕ) → limit_of others h ≡ limit_of groups h
  pub inside : (h : ℕ) → is_under groups.rows group h ≡ true
      → demand_of others.rows h ≡ demand_of groups.rows h

-- The least amount of a group over all demands of the groups that are not under it.
pub record IsGuaranteed (groups : Groups) (group amount : ℕ) : Type 0 where
  pub within : group < length groups.rows
  pub none_less : (others : Groups) (amounts : List ℕ) → IsAskedOtherwise groups others group
      → IsPlan others amounts → amount ≤ slice_index amounts group
  pub reached : (others : Groups) × (amounts : List ℕ) × IsAskedOtherwise groups others group
      × IsPlan others amounts × (slice_index amounts group ≡ amount)
