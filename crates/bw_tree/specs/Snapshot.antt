-- A tree as an instance has it: a row for each group, in order of creation.
use Rattle.std.specs.Prelude.{ℕ, zero, suc, ◌+◌, ◌-◌, ◌<◌, ◌≤◌, min, nat_eq, List, [], ◌∷◌, map}
use Rattle.std.specs.Prelude.{length, slice_index, Option, Some, None, IfSome, position}
use Rattle.std.specs.Map.{keys_of, values_of}
use Rattle.bw_model.specs.Host.{Shape}
use Rattle.bw_model.specs.Quota.{in_slices, slices_of}
use Rattle.bw_model.specs.Groups.{Groups, row_of as row_at}
use Rattle.bw_model.specs.declared.row.Row.{Row}
use Rattle.bw_tree.specs.Groups.{GroupFields, TreeState}
use Rattle.bw_tree.specs.Tree.{set_carry}

-- the row number of the parent
abbrev pub row_above : List (ℕ × GroupFields) → Option ℕ → Option ℕ
row_above groups None = None
row_above groups (Some id) = position (nat_eq id) (keys_of groups)

-- the quota of a group in whole slices of the host's period, where there is one
abbrev pub quota_slices : Shape → GroupFields → Option ℕ
quota_slices shape g = slices_of shape g.period g.quota

-- the limit of a period in slices: the quota and the slices left over, at most the quota and the
-- burst
abbrev pub with_burst : ℕ → ℕ → ℕ → ℕ
with_burst carry burst quota = min (carry + quota) (quota + burst)

-- the limit of a period in slices, if the group has a quota
abbrev pub bursting : ℕ → ℕ → Option ℕ → Option ℕ
bursting carry burst None = None
bursting carry burst (Some quota) = Some (with_burst carry burst quota)

-- the limit of a group in a period of the host
abbrev pub period_limit : Shape → GroupFields → Option ℕ
period_limit shape g = bursting g.carry (in_slices shape g.period g.burst) (quota_slices shape g)

-- a group as a row, its limit in whole slices
abbrev pub row_of : List (ℕ × GroupFields) → Shape → GroupFields → Row
row_of groups shape g =
    record {
      parent = row_above groups g.parent;
      weight = g.weight;
      limit = period_limit shape g;
      demand = g.demand;
    }

-- a row for each group, in order of creation
abbrev pub rows_of : List (ℕ × GroupFields) → Shape → List Row
rows_of groups shape = map (row_of groups shape) (values_of groups)

-- the quota of each group in whole slices, where it has one
abbrev pub base_of : List (ℕ × GroupFields) → Shape → List (Option ℕ)
base_of groups shape = map (quota_slices shape) (values_of groups)

-- the groups on a host
abbrev pub instance_of : TreeState → Shape → Groups
instance_of t shape = record { shape = shape; rows = rows_of t.groups shape }

-- the slices left of a limit
abbrev pub left_of : Option ℕ → ℕ → ℕ
left_of None drawn = 0
left_of (Some limit) drawn = limit - drawn

-- the slices that each row left of its limit
abbrev pub left_over : List Row → List ℕ → List ℕ
left_over [] drawn = []
left_over (row ∷ rows) [] = []
left_over (row ∷ rows) (d ∷ ds) = left_of row.limit d ∷ left_over rows ds

-- no row has drawn more than its limit
abbrev pub IsDrawnWithin : List Row → List ℕ → Type 0
IsDrawnWithin rows drawn = (g : ℕ) → g < length rows
    → IfSome (row_at rows g).limit (λ limit. slice_index drawn g ≤ limit)

-- the groups, each with what it left over, in the same order
abbrev pub carried : List (ℕ × GroupFields) → List ℕ → List (ℕ × GroupFields)
carried groups [] = groups
carried [] (carry ∷ carries) = []
carried (e ∷ es) (carry ∷ carries) = (e.0, set_carry carry e.1) ∷ carried es carries

-- the groups, of which the one at a place left so many slices over
abbrev pub carried_at : List (ℕ × GroupFields) → ℕ → ℕ → List (ℕ × GroupFields)
carried_at [] place carry = []
carried_at (e ∷ es) zero carry = (e.0, set_carry carry e.1) ∷ es
carried_at (e ∷ es) (suc place) carry = e ∷ carried_at es place carry

-- the tree after a period: each group keeps what its row left over, and all else is as it was
abbrev pub carried_over : TreeState → List Row → List ℕ → TreeState
carried_over t rows drawn =
    record { groups = carried t.groups (left_over rows drawn); next = t.next }
