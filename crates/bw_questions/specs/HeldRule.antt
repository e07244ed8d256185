-- The rule of a round: its demands, its plan and its limits, from a reading.
use Rattle.std.specs.Prelude.{◌≡◌, ◌<◌, ◌≤◌, ◌↔◌, ℕ, ◌+◌, List, Bool, true, false, ◌&&◌, ◌||◌, not}
use Rattle.std.specs.Prelude.{Option, Some, length, map, min, max, nat_lt, slice_index}
use Rattle.std.specs.Prelude.{slice_index_or, IsTrue, if◌then◌else◌}
use Rattle.std.specs.Int.{div_ceil}
use Rattle.std.specs.List.{range_with_len}
use Rattle.std.specs.Option.{option_map_or}
use Rattle.bw_model.specs.declared.row.Row.{Row}
use Rattle.bw_model.specs.declared.limits.TheConstants.{MAX_DEMAND}
use Rattle.bw_model.specs.Groups.{Groups, parent_of, weight_of, demand_of, row_of, is_leaf}
use Rattle.bw_model.specs.Plan.{IsPlan}

-- A reading is a tree whose demands are what the leaves used in the last round, and a flag for each
-- row: whether it would have used more.

-- the flag of a row
abbrev pub is_hungry : List Bool → ℕ → Bool
is_hungry hungry g = slice_index_or hungry g false

-- the limit of a group's own row
abbrev pub own_limit : List Row → ℕ → Option ℕ
own_limit rows g = (row_of rows g).limit

-- the demand of a row: the greatest demand at a hungry leaf, else what was used
abbrev pub demand_where : List Row → Bool → ℕ → ℕ
demand_where rows hungry g = if hungry && is_leaf rows g then MAX_DEMAND else demand_of rows g

-- the row of a group, with another demand
abbrev pub row_asking : List Row → (ℕ → ℕ) → ℕ → Row
row_asking rows demand g = record {
  parent = parent_of rows g;
  weight = weight_of rows g;
  limit = own_limit rows g;
  demand = demand g;
}

-- the groups, with other demands
abbrev pub asking : Groups → (ℕ → ℕ) → Groups
asking groups demand = record {
  shape = groups.shape;
  rows = map (row_asking groups.rows demand) (range_with_len 0 (length groups.rows));
}

-- the groups of a round: hungry leaves ask for everything, the others for what they used
abbrev pub round_of : Groups → List Bool → Groups
round_of used hungry =
    asking used (λ g. demand_where used.rows (is_hungry hungry g) g)

-- the groups with each leaf asking for everything
abbrev pub everyone : Groups → Groups
everyone groups = asking groups (λ g. demand_where groups.rows true g)

-- the demand of a row, or its own limit if that is less
abbrev pub asked_within : Row → ℕ
asked_within row = option_map_or (min row.demand) row.limit row.demand

-- A round is calm if its plan gives each leaf all that it asks for, or its own limit.
abbrev pub IsCalm : Groups → List ℕ → Type 0
IsCalm round amounts = (l : ℕ) → l < length round.rows → is_leaf round.rows l ≡ true
    → asked_within (row_of round.rows l) ≤ slice_index amounts l

-- the slices that a leaf used, and an eighth of them, rounded up and at least one slice
abbrev pub with_eighth : ℕ → ℕ
with_eighth used = used + max 1 (div_ceil used 8)

-- the slices that a leaf used with their eighth, or its own limit if that is less
abbrev pub headroom : Row → ℕ
headroom row = option_map_or (min (with_eighth row.demand)) row.limit (with_eighth row.demand)

-- The limit of a leaf: its planned amount if it is hungry or planned less than it used, else its
-- headroom. It is never less than the floor.
abbrev pub leaf_limit : Row → Bool → ℕ → ℕ → ℕ
leaf_limit row hungry floor amount =
    max floor (if hungry || nat_lt amount row.demand then amount else headroom row)

-- The limit of a row in a round: each keeps its own in a calm round, and a group with children
-- keeps it in any.
abbrev pub round_limit : Groups → Bool → List Bool → List ℕ → List ℕ → ℕ → Option ℕ
round_limit used calm hungry floors amounts g =
    if is_leaf used.rows g && not calm
    then Some (leaf_limit (row_of used.rows g) (is_hungry hungry g) (slice_index floors g)
    (slice_index amounts g))
    else own_limit used.rows g

-- Demands, amounts and limits of a round by the rule. The floors are the amounts of the plan in
-- which each leaf asks for everything.
pub record IsRound (used : Groups) (hungry : List Bool) (demands amounts : List ℕ)
    (limits : List (Option ℕ)) : Type 0 where
  pub floors : List ℕ
  pub floors_are : IsPlan (everyone used) floors
  pub demands_are : demands ≡ map (λ (r : Row). r.demand) (round_of used hungry).rows
  pub amounts_are : IsPlan (round_of used hungry) amounts
  pub calm : Bool
  pub calm_is : IsTrue calm ↔ IsCalm (round_of used hungry) amounts
  pub limits_are : limits ≡ map (round_limit used calm hungry floors amounts)
      (range_with_len 0 (length used.rows))
