-- The slices that booked periods leave and draw, as the laws say it.
use Rattle.std.specs.Prelude.{◌≡◌, ◌+◌, ◌*◌, ◌≤◌, ℕ, List, map}
use Rattle.bw_model.specs.Host.{Shape}
use Rattle.bw_model.specs.declared.row.Row.{Row}
use Rattle.bw_tree.specs.Bandwidth.{Call, after_call, CanBook, HasBandwidth, KeepsBandwidth}
use Rattle.bw_tree.specs.Bandwidth.{HasNoBurst, drawn_in, drawn_at, periods_in, carry_at, with_left}
use Rattle.bw_tree.specs.Bandwidth.Call.{Book}
use Rattle.bw_tree.specs.Groups.{TreeState, group_at}
use Rattle.bw_tree.specs.Snapshot.{rows_of, base_of, instance_of, carried_over}

-- n booked periods draw at most n quotas and one burst, whatever was left over before them
abbrev pub IsBoundedByBurst : Type 0
IsBoundedByBurst =
    (shape : Shape) (id quota burst : ℕ) (t : TreeState) (calls : List Call)
    → KeepsBandwidth shape id quota burst t calls
    → drawn_in shape id t calls ≤ quota * periods_in calls + burst

-- n booked periods draw at most n quotas and what was left over before them
abbrev pub IsBoundedByCarry : Type 0
IsBoundedByCarry =
    (shape : Shape) (id quota burst : ℕ) (t : TreeState) (calls : List Call)
    → KeepsBandwidth shape id quota burst t calls
    → drawn_in shape id t calls ≤ quota * periods_in calls + carry_at t id

-- after a booked period at most the quota and the burst is left over
abbrev pub IsCarryBounded : Type 0
IsCarryBounded =
    (shape : Shape) (id quota burst : ℕ) (t : TreeState) (drawn : List ℕ)
    → HasBandwidth shape t id quota burst → CanBook shape t drawn
    → carry_at (after_call shape t (Book drawn)) id ≤ quota + burst

-- a group leaves over its limit less the slices it drew, and nothing else of the group changes
abbrev pub IsLeftOver : Type 0
IsLeftOver =
    (shape : Shape) (id : ℕ) (t : TreeState) (drawn : List ℕ) → CanBook shape t drawn
    → group_at (after_call shape t (Book drawn)).groups id
    ≡ with_left shape (drawn_at t.groups drawn id) (group_at t.groups id)

-- where no group has a burst each limit is the quota in slices
abbrev pub AreLimitsQuotas : Type 0
AreLimitsQuotas =
    (shape : Shape) (t : TreeState) → HasNoBurst t.groups
    → map (λ (r : Row). r.limit) (rows_of t.groups shape) ≡ base_of t.groups shape

-- where no group has a burst a booked period leaves the same instance
abbrev pub IsCarryUnseen : Type 0
IsCarryUnseen =
    (shape : Shape) (t : TreeState) (rows : List Row) (drawn : List ℕ) → HasNoBurst t.groups
    → instance_of (carried_over t rows drawn) shape ≡ instance_of t shape

-- a booked period gives no group a burst
abbrev pub KeepsNoBurst : Type 0
KeepsNoBurst =
    (t : TreeState) (rows : List Row) (drawn : List ℕ) → HasNoBurst t.groups
    → HasNoBurst (carried_over t rows drawn).groups
