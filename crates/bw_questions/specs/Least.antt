-- The least value that reaches an amount.
use Rattle.std.specs.Prelude.{ℕ, ◌<◌, ◌≤◌, List, Option, None, Some, slice_index}
use Rattle.bw_model.specs.Groups.{Groups}
use Rattle.bw_model.specs.Plan.{IsPlan}
use Rattle.bw_questions.specs.declared.least.setting.Setting.{Setting}
use Rattle.bw_questions.specs.Change.{with_limit, changed, greatest_of}

-- the plan of the groups gives one of them at least so much
pub record Reaches (groups : Groups) (group amount : ℕ) : Type 0 where
  pub amounts : List ℕ
  pub plan : IsPlan groups amounts
  pub enough : amount ≤ slice_index amounts group

-- the least number from first to last at which a fact holds, or None where it holds at none
abbrev pub IsLeast : (ℕ → Type 0) → ℕ → ℕ → Option ℕ → Type 0
IsLeast Holds first last None = (n : ℕ) → first ≤ n → n ≤ last → ¬ Holds n
IsLeast Holds first last (Some n) = (first ≤ n) × (n ≤ last) × Holds n
    × ((m : ℕ) → first ≤ m → m < n → ¬ Holds m)

-- the least limit of a group that reaches an amount, or None where no limit reaches it, and nor
-- does the group without one
abbrev pub IsLeastLimit : Groups → ℕ → ℕ → Option ℕ → Type 0
IsLeastLimit groups group amount None =
    (limit : Option ℕ) → ¬ Reaches (with_limit groups group limit) group amount
IsLeastLimit groups group amount (Some limit) =
    Reaches (with_limit groups group (Some limit)) group amount
    × ((lower : ℕ) → lower < limit → ¬ Reaches (with_limit groups group (Some lower)) group amount)

-- a greater value of a setting reaches what a lesser one does
abbrev pub Rises : Groups → Setting → ℕ → ℕ → Type 0
Rises groups setting group amount = (v w : ℕ) → 1 ≤ v → v ≤ w → w ≤ greatest_of setting
    → Reaches (changed groups setting group v) group amount
    → Reaches (changed groups setting group w) group amount
