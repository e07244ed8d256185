-- The cost of splits: the groups whose split may need a search, their children, and counts.
use Rattle.std.specs.Prelude.{◌≡◌, ℕ, ◌+◌, ◌*◌, ◌≤◌, ◌&&◌, List, Bool, false, length, filter}
use Rattle.std.specs.Prelude.{nat_lt}
use Rattle.std.specs.List.{range_with_len, AllZip}
use Rattle.std.specs.Option.{option_map_or}
use Rattle.bw_model.specs.declared.row.Row.{Row}
use Rattle.bw_model.specs.Groups.{Groups, parent_of, children_of}
use Rattle.bw_split.specs.Counts.{Done}
use Rattle.bw_split.specs.declared.limits.TheConstants.{MAX_ROUNDS}
use Rattle.bw_plan.specs.declared.counted_parts.CountedParts.{CountedParts}
use Rattle.bw_plan.specs.Shared.{AreParts}

-- whether a group has more than two children: a split among fewer needs no search
abbrev pub is_wide : List Row → ℕ → Bool
is_wide rows g = nat_lt 2 (length (children_of rows g))

-- the number of groups with more than two children
unfoldable pub wide_groups : List Row → ℕ
wide_groups rows = length (filter (is_wide rows) (range_with_len 0 (length rows)))

-- the number of these among some groups
unfoldable pub wide_among : List Row → (ℕ → Bool) → ℕ
wide_among rows chosen =
    length (filter (λ g. chosen g && is_wide rows g) (range_with_len 0 (length rows)))

-- the number of the children of some groups
unfoldable pub children_among : List Row → (ℕ → Bool) → ℕ
children_among rows chosen =
    length (filter (λ c. option_map_or chosen (parent_of rows c) false)
    (range_with_len 0 (length rows)))

-- no work
abbrev pub nothing_done : Done
nothing_done = record { rounds = 0; picks = 0 }

-- the count before and after one group's split: no search where it has at most two children, and at
-- most one pick for each child
pub record IsOneCounted (rows : List Row) (g : ℕ) (before after : Done) : Type 0 where
  pub rounds : after.rounds ≤ before.rounds + MAX_ROUNDS
  pub no_search : length (children_of rows g) ≤ 2 → after.rounds ≡ before.rounds
  pub picks : after.picks ≤ before.picks + length (children_of rows g)
  pub no_fewer_rounds : before.rounds ≤ after.rounds
  pub no_fewer_picks : before.picks ≤ after.picks

-- the count before and after the splits by which the groups that are done have become more
pub record IsCounted (rows : List Row) (done more : ℕ → Bool) (before after : Done) : Type 0 where
  pub rounds : after.rounds + MAX_ROUNDS * wide_among rows done
      ≤ before.rounds + MAX_ROUNDS * wide_among rows more
  pub picks : after.picks + children_among rows done ≤ before.picks + children_among rows more
  pub no_fewer_rounds : before.rounds ≤ after.rounds
  pub no_fewer_picks : before.picks ≤ after.picks

-- the parts of what a group has, and the count of their split
pub record AreCountedParts (groups : Groups) (most amounts : List ℕ) (g : ℕ)
    (made : CountedParts) : Type 0 where
  pub shared : AreParts groups most amounts g made.parts.items
  pub counted : IsOneCounted groups.rows g nothing_done made.work

-- the parts of each of these groups, in their order
abbrev pub ArePartsOfEach : Groups → List ℕ → List ℕ → List ℕ → List CountedParts → Type 0
ArePartsOfEach groups most amounts listed parts =
    AllZip (AreCountedParts groups most amounts) listed parts
