-- Laws of the worth of a weight beside the siblings' weights.
use Rattle.std.specs.Prelude.{ℕ, ◌+◌, ◌-◌, ◌*◌, ◌==◌, ◌<◌, ◌≤◌, List, length, cond}
use Rattle.std.specs.Prelude.{slice_index, sum_by}
use Rattle.std.specs.List.{range_with_len}
use Rattle.bw_model.specs.Split.{IsBestSplit}
use Rattle.bw_questions.specs.changes.OneSplit.{AreWeighted}

-- A child that could take more, beside each sibling: crosswise, the cost of its next slice is at
-- least that of the sibling's last one.
abbrev pub FairWithinHalfASlice : Type 0
FairWithinHalfASlice = (amount : ℕ) (weights most parts : List ℕ) → AreWeighted weights most
    → IsBestSplit amount weights most parts
    → (i j : ℕ) → i < length parts → j < length parts
    → slice_index parts i < slice_index most i
    → (2 * slice_index parts j - 1) * slice_index weights i
    ≤ (2 * slice_index parts i + 1) * slice_index weights j

-- the value for each child that may take something, and 0 for the others
abbrev pub of_active : List ℕ → (ℕ → ℕ) → ℕ → ℕ
of_active most value k = cond (slice_index most k == 0) 0 (value k)

-- number of children that may take something
abbrev pub active : List ℕ → ℕ
active most = sum_by (of_active most (λ k. 1)) (range_with_len 0 (length most))

-- sum of the weights of the children that may take something
abbrev pub active_weight : List ℕ → List ℕ → ℕ
active_weight weights most =
    sum_by (of_active most (slice_index weights)) (range_with_len 0 (length most))

-- Twice the amount, and 2, times the weight of a child that could take more, is at most twice its
-- part, and 1, times the active weight, and its weight for each active child.
abbrev pub WeightIsAFloor : Type 0
WeightIsAFloor = (amount : ℕ) (weights most parts : List ℕ) → AreWeighted weights most
    → IsBestSplit amount weights most parts
    → (i : ℕ) → i < length parts → slice_index parts i < slice_index most i
    → (2 * amount + 2) * slice_index weights i
    ≤ (2 * slice_index parts i + 1) * active_weight weights most
    + active most * slice_index weights i
