-- The slices that the children take at a level.
use Rattle.std.specs.Prelude.{ℕ, ◌+◌, ◌*◌, ◌/◌, List, length, sum_by, slice_index}
use Rattle.std.specs.Prelude.{min}
use Rattle.std.specs.List.{range_with_len}
use Rattle.bw_split.specs.declared.limits.TheConstants.{STEPS}

-- A level is a number of steps of one cost. What a child takes there: so many of its marks (2k - 1)
-- / weight
-- are at or below the level, and no more than its maximum.
unfoldable pub taken : ℕ → ℕ → ℕ → ℕ
taken level weight most = min ((level * weight + STEPS) / (2 * STEPS)) most

-- the slices that all children take at a level
unfoldable pub taken_by_all : ℕ → List ℕ → List ℕ → ℕ
taken_by_all level weights most =
    sum_by (λ k. taken level (slice_index weights k) (slice_index most k))
    (range_with_len 0 (length weights))
