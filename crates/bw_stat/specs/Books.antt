-- The change that one call makes to the counters of the groups.
use Rattle.std.specs.Prelude.{ℕ, ◌+◌, ◌*◌, ◌-◌, ◌^◌, min, Bool, nat_lt, nat_eq, List, [], ◌∷◌}
use Rattle.std.specs.Prelude.{Option, Some, None, if◌then◌else◌}
use Rattle.std.specs.Map.{lookup, remove_entry}
use Rattle.indexmap.specs.IndexMap.{insert_entry}
use Rattle.bw_model.specs.declared.row.Row.{Row}
use Rattle.bw_model.specs.declared.stat.Stat.{Stat}
use Rattle.bw_demand.specs.Figures.{withheld_slices}

-- the numbers that one period adds to the counters of one group, times in microseconds
pub record Share : Type 0 where
  pub usage_usec : ℕ
  pub is_throttled : Bool
  pub withheld_usec : ℕ
  pub is_burst : Bool
  pub burst_usec : ℕ

-- slices that a group drew above its quota, 0 for the root, which has no parent
-- (sched-bwc.rst, "Statistics")
abbrev pub burst : Option ℕ → Option ℕ → ℕ → ℕ
burst None quota drawn = 0
burst (Some parent) None drawn = 0
burst (Some parent) (Some quota) drawn = drawn - quota

abbrev pub share_of : ℕ → Row → Option ℕ → ℕ → ℕ → Share
share_of slice_us row quota want drawn = record {
  usage_usec = drawn * slice_us;
  is_throttled = nat_lt 0 (withheld_slices row.parent row.limit want);
  withheld_usec = withheld_slices row.parent row.limit want * slice_us;
  is_burst = nat_lt 0 (burst row.parent quota drawn);
  burst_usec = burst row.parent quota drawn * slice_us;
}

-- the numbers that a period adds for each group, from one list each of rows, ids, quotas, wants and
-- drawn slices
abbrev pub shares_of : ℕ → List Row → List ℕ → List (Option ℕ) → List ℕ → List ℕ → List (ℕ × Share)
shares_of slice_us [] ids base wants drawn = []
shares_of slice_us (row ∷ rows) [] base wants drawn = []
shares_of slice_us (row ∷ rows) (id ∷ ids) [] wants drawn = []
shares_of slice_us (row ∷ rows) (id ∷ ids) (q ∷ qs) [] drawn = []
shares_of slice_us (row ∷ rows) (id ∷ ids) (q ∷ qs) (w ∷ ws) [] = []
shares_of slice_us (row ∷ rows) (id ∷ ids) (q ∷ qs) (w ∷ ws) (d ∷ ds) =
    (id, share_of slice_us row q w d) ∷ shares_of slice_us rows ids qs ws ds

-- the counters kept for a group
abbrev pub stat_at : List (ℕ × Stat) → ℕ → Option Stat
stat_at books id = lookup (nat_eq id) books

abbrev pub zeros : Stat
zeros = record {
  usage_usec = 0;
  nr_periods = 0;
  nr_throttled = 0;
  throttled_usec = 0;
  nr_bursts = 0;
  burst_usec = 0;
}

abbrev pub or_zeros : Option Stat → Stat
or_zeros None = zeros
or_zeros (Some s) = s

-- a counter stops at its greatest value
abbrev pub cut : ℕ → ℕ
cut n = min n (2 ^ 64 - 1)

-- one period where it holds, and else none
abbrev pub periods_if : Bool → ℕ
periods_if b = if b then 1 else 0

abbrev pub added : Stat → Share → Stat
added s share = record {
  usage_usec = cut (s.usage_usec + share.usage_usec);
  nr_periods = cut (s.nr_periods + 1);
  nr_throttled = cut (s.nr_throttled + periods_if share.is_throttled);
  throttled_usec = cut (s.throttled_usec + share.withheld_usec);
  nr_bursts = cut (s.nr_bursts + periods_if share.is_burst);
  burst_usec = cut (s.burst_usec + share.burst_usec);
}

-- one group's share is booked
abbrev pub with_share : List (ℕ × Stat) → ℕ → Share → List (ℕ × Stat)
with_share books id share = insert_entry nat_eq books id (added (or_zeros (stat_at books id)) share)

-- one period is booked
abbrev pub booked : List (ℕ × Stat) → List (ℕ × Share) → List (ℕ × Stat)
booked books [] = books
booked books (e ∷ es) = booked (with_share books e.0 e.1) es

-- one group is forgotten
abbrev pub forgotten : List (ℕ × Stat) → ℕ → List (ℕ × Stat)
forgotten books id = remove_entry (nat_eq id) books
