-- The level above a child.
use Rattle.std.specs.Prelude.{ℕ, ◌<◌, ◌≤◌, ◌==◌, List, Option, None, Some, slice_index}
use Rattle.std.specs.Prelude.{if◌then◌else◌}
use Rattle.std.specs.Option.{option_map_or}
use Rattle.bw_model.specs.declared.limits.TheConstants.{MAX_CAPACITY}
use Rattle.bw_model.specs.declared.mark.Mark.{Mark}
use Rattle.bw_model.specs.declared.row.Row.{Row}
use Rattle.bw_model.specs.Groups.{parent_of}
use Rattle.bw_model.specs.Certificate.{Certified, level_at}

-- the level of a child's parent, where the parent shares something out
abbrev pub level_above : List Row → List ℕ → Certified → ℕ → Option Mark
level_above rows amounts certificate c =
    option_map_or (λ g. if slice_index amounts g == 0 then None else level_at certificate g)
    (parent_of rows c) None

-- no amount is above the capacity of the largest host
abbrev pub AreSmall : List ℕ → Type 0
AreSmall amounts = (g : ℕ) → slice_index amounts g ≤ MAX_CAPACITY

-- the least number below n of which the claim fails, if there is one
abbrev pub IsFirst : (ℕ → Type 0) → ℕ → Option ℕ → Type 0
IsFirst claim n None = (g : ℕ) → g < n → claim g
IsFirst claim n (Some g) = (g < n) × ¬ claim g × ((h : ℕ) → h < g → claim h)
