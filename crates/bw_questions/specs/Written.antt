-- Quotas and weights that are written for limits of a round.
use Rattle.std.specs.Prelude.{ℕ, ◌+◌, ◌-◌, ◌*◌, ◌/◌, ◌≤◌, ◌&&◌, nat_le, min, max}
use Rattle.std.specs.Prelude.{Option, Some, None, if◌then◌else◌}
use Rattle.bw_model.specs.Host.{Shape, slices_per_processor}
use Rattle.bw_model.specs.declared.limits.TheConstants.{MIN_QUOTA_US, MIN_WEIGHT, MAX_WEIGHT}

-- the quota of a limit in slices, and no less than the kernel takes
abbrev pub quota_of_limit : Shape → ℕ → ℕ
quota_of_limit shape limit = max MIN_QUOTA_US (limit * shape.slice_us)

-- the quota of a limit, and so many parts of it
abbrev pub with_part : ℕ → ℕ → ℕ
with_part parts quota = quota + quota / parts

-- The quota that is written for a limit of a leaf with an own limit, where a quota stands. None
-- says that the own limit is written, which allows no more. A quota that stands between the limit
-- and a sixty-fourth above it stays. Else it is a hundred-and-twenty-eighth above the limit.
-- Neither is above the own limit.
abbrev pub written_quota : Shape → ℕ → ℕ → ℕ → Option ℕ
written_quota shape limit own stands =
    if nat_le (own * shape.slice_us) (quota_of_limit shape limit) then None
    else Some (if nat_le (quota_of_limit shape limit) stands
    && nat_le stands (min (own * shape.slice_us) (with_part 64 (quota_of_limit shape limit)))
    then stands
    else min (own * shape.slice_us) (with_part 128 (quota_of_limit shape limit)))

-- A written quota lies from the limit to a sixty-fourth above it, and not above the own limit.
pub record IsWritten (shape : Shape) (limit own quota : ℕ) : Type 0 where
  pub least : quota_of_limit shape limit ≤ quota
  pub most : quota ≤ with_part 64 (quota_of_limit shape limit)
  pub within : quota ≤ own * shape.slice_us

-- the slices of one period that the tasks of a leaf can use, of which there is one at least
abbrev pub slices_of_tasks : Shape → ℕ → ℕ
slices_of_tasks shape tasks = max 1 tasks * slices_per_processor shape

-- The weight of a leaf whose tasks may use `amount` slices of `most`, a part d of the processors
-- that they can use: the nearest whole number to 100 d / (1.01 - d), 1 to 10000.
abbrev pub weight_of_part : ℕ → ℕ → ℕ
weight_of_part amount most = max MIN_WEIGHT (min MAX_WEIGHT
    ((20000 * amount + (101 * most - 100 * amount)) / (2 * (101 * most - 100 * amount))))

-- the weight of a leaf with a limit
abbrev pub weight_of_limit : Shape → ℕ → ℕ → ℕ
weight_of_limit shape limit tasks =
    weight_of_part (min limit (slices_of_tasks shape tasks)) (slices_of_tasks shape tasks)
