-- Readings of a host, the amounts that limits admit there, and what a host serves.
use Rattle.std.specs.Prelude.{◌≡◌, ℕ, ◌<◌, ◌≤◌, List, Bool, true, Option, None, Some, length, map}
use Rattle.std.specs.Prelude.{min, nat_lt, slice_index_or, if◌then◌else◌}
use Rattle.std.specs.List.{range_with_len}
use Rattle.std.specs.Option.{option_map_or}
use Rattle.bw_model.specs.Allocation.{IsWithin}
use Rattle.bw_model.specs.Groups.{Groups, IsInstance, weight_of, demand_of, limit_of, is_leaf}
use Rattle.bw_questions.specs.changes.Tree.{IsSameTree}
use Rattle.bw_questions.specs.HeldRule.{is_hungry}

-- Two instances that may differ in their demands alone.
pub record IsSameButDemands (groups others : Groups) : Type 0 where
  pub tree : IsSameTree groups.rows others.rows
  pub weights : (h : ℕ) → weight_of others.rows h ≡ weight_of groups.rows h
  pub limits : (h : ℕ) → limit_of others h ≡ limit_of groups h

-- A reading is true of wants: no leaf is read to have used more than it wanted, and it is hungry if
-- and only if it is read to have used less.
pub record IsTrueReading (wants used : Groups) (hungry : List Bool) : Type 0 where
  pub valid : IsInstance used
  pub same : IsSameButDemands wants used
  pub no_more : (l : ℕ) → l < length wants.rows → is_leaf wants.rows l ≡ true
      → demand_of used.rows l ≤ demand_of wants.rows l
  pub flags : (l : ℕ) → l < length wants.rows → is_leaf wants.rows l ≡ true
      → is_hungry hungry l ≡ nat_lt (demand_of used.rows l) (demand_of wants.rows l)

-- the limit of a row in a column of limits
abbrev pub limit_at : List (Option ℕ) → ℕ → Option ℕ
limit_at limits g = slice_index_or limits g None

-- whether a limit is none, or no less than a number
abbrev pub IsNoneOrAtLeast : ℕ → Option ℕ → Type 0
IsNoneOrAtLeast least limit = (some : ℕ) → limit ≡ Some some → least ≤ some

-- the part that limits admit of the want of a leaf, and 0 at other groups
abbrev pub admitted_at : Groups → List (Option ℕ) → ℕ → ℕ
admitted_at wants limits g =
    if is_leaf wants.rows g
    then option_map_or (min (demand_of wants.rows g)) (limit_at limits g) (demand_of wants.rows g)
    else 0

-- the parts that limits admit of the wants of all leaves
abbrev pub admitted : Groups → List (Option ℕ) → List ℕ
admitted wants limits = map (admitted_at wants limits) (range_with_len 0 (length wants.rows))

-- Amounts that a host served the leaves in a round under limits. None is above what they admit. If
-- all that they admit fits the host and the limits of all groups, the host served all of it.
pub record IsServed (wants : Groups) (limits : List (Option ℕ)) (served : ℕ → ℕ) : Type 0 where
  pub within : (l : ℕ) → l < length wants.rows → is_leaf wants.rows l ≡ true
      → served l ≤ admitted_at wants limits l
  pub whole : IsWithin wants (admitted wants limits) → (l : ℕ) → l < length wants.rows
      → is_leaf wants.rows l ≡ true → served l ≡ admitted_at wants limits l

-- No leaf is read to have used less than it was served.
abbrev pub ReadsNoLess : Groups → (ℕ → ℕ) → Groups → Type 0
ReadsNoLess wants served used = (l : ℕ) → l < length wants.rows → is_leaf wants.rows l ≡ true
    → served l ≤ demand_of used.rows l
