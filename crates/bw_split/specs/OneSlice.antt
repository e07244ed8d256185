-- Moves of one slice between two siblings, and the law that a split is best where no such move
-- gains.
use Rattle.std.specs.Prelude.{◌≡◌, ◌≢◌, ℕ, ◌+◌, ◌-◌, ◌<◌, List, length, slice_index, slice_set}
use Rattle.bw_model.specs.Split.{IsSplit, IsNoWorse, IsBestSplit}

-- the parts after one slice went from child i to child j
abbrev pub moved : List ℕ → ℕ → ℕ → List ℕ
moved parts i j =
    slice_set (slice_set parts i (slice_index parts i - 1)) j (slice_index parts j + 1)

-- No move of one slice gains: from a part above 0 to another part, one below its maximum, the cost
-- after it is not less, and where it
-- is the same the parts after it are not lexicographically greater.
abbrev pub NoMoveGains : List ℕ → List ℕ → List ℕ → Type 0
NoMoveGains weights most parts = (i j : ℕ) → i < length parts → j < length parts → i ≢ j
    → 0 < slice_index parts i → slice_index parts j < slice_index most j
    → IsNoWorse weights parts (moved parts i j)

-- a split in which no move of one slice gains is the best of all splits of its amount
abbrev pub UnmovedIsBest : Type 0
UnmovedIsBest = (amount : ℕ) (weights most parts : List ℕ) → length weights ≡ length most
    → ((k : ℕ) → k < length weights → 0 < slice_index weights k)
    → IsSplit amount most parts → NoMoveGains weights most parts
    → IsBestSplit amount weights most parts

-- in the best split no move of one slice gains
abbrev pub BestIsUnmoved : Type 0
BestIsUnmoved = (amount : ℕ) (weights most parts : List ℕ) → IsBestSplit amount weights most parts
    → NoMoveGains weights most parts
