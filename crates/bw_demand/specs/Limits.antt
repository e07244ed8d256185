-- The groups that limit an instance.
use Rattle.std.specs.Prelude.{ℕ, ◌+◌, List, sum_by, unwrap_or}
use Rattle.bw_model.specs.Groups.{Groups, limit_of}
use Rattle.bw_model.specs.Allocation.{IsGreatestTotal}

-- the limits of these groups and the rest add up to the greatest total
abbrev pub AreGreatest : Groups → List ℕ → ℕ → Type 0
AreGreatest groups listed rest =
    IsGreatestTotal groups (sum_by (λ g. unwrap_or (limit_of groups g) 0) listed + rest)
