-- Shares of the rest of a host beside a plan, by weights.
use Rattle.std.specs.Prelude.{◌≡◌, ℕ, zero, suc, ◌+◌, ◌-◌, ◌*◌, ◌==◌, List, length, slice_index}
use Rattle.std.specs.Prelude.{min, max, if◌then◌else◌}
use Rattle.std.specs.Int.{div_ceil}
use Rattle.bw_owned.specs.declared.rest.TheConstants.{MOST_TOLD, ROOT_WEIGHT}
use Rattle.bw_owned.specs.declared.rest.RestShare.{RestShare}

-- the weight of a group, of which 0 says that it is idle: 1 or more
abbrev pub own_weight : List ℕ → ℕ → ℕ
own_weight own k = max (slice_index own k) 1

-- the weight of a root's tasks, which are one group beside those of the last level
abbrev pub root_weight : ℕ → ℕ → ℕ
root_weight k levels = if k + 1 == levels then ROOT_WEIGHT else 0

-- the weights of all others at a level
abbrev pub weight_beside : List ℕ → ℕ → ℕ
weight_beside others k = slice_index others k + root_weight k (length others)

-- the slices that others have by weights beside a group that has so many, rounded up
abbrev pub beside : ℕ → ℕ → ℕ → ℕ
beside own others slices = div_ceil (others * slices) own

-- The slices of a group, then of the group above it, and so on up the first levels. Each group
-- above has those of the one below and those of the others beside that one.
abbrev pub up_to : ℕ → List ℕ → List ℕ → ℕ → ℕ
up_to slices own others zero = slices
up_to slices own others (suc k) =
    up_to slices own others k
    + beside (own_weight own k) (weight_beside others k) (up_to slices own others k)

-- The rest of a host is guaranteed what the host has beside the slices of the planned groups. Its
-- amount is what the plan leaves of these, or its guarantee if that is more.
pub record IsRestShare (slices planned : ℕ) (own others : List ℕ) (share : RestShare) : Type 0
  where
    pub guarantee_is : share.guarantee
        ≡ min (up_to slices own others (length own)) MOST_TOLD - slices
    pub amount_is : share.amount ≡ max share.guarantee (slices - planned)
