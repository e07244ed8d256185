-- A booked period, in columns of numbers.
use Rattle.std.specs.Prelude.{◌≡◌, ℕ, List, length, map, slice_index}
use Rattle.std.specs.List.{range_with_len}
use Rattle.bw_model.specs.declared.stat.Stat.{Stat}
use Rattle.bw_model.specs.Groups.{Groups, row_of}
use Rattle.bw_demand.specs.Demands.{Demands, IsGathered}
use Rattle.bw_stat.specs.Books.{added, share_of}
use Rattle.bw_tree.specs.Snapshot.{left_of}
use Rattle.bw_columns.specs.Asked.{limit_in}
use Rattle.bw_columns.specs.declared.booked.CounterColumns.{CounterColumns}
use Rattle.bw_columns.specs.declared.booked.BookedColumns.{BookedColumns}

-- the counters of the groups by column, times in microseconds
pub record Counters : Type 0 where
  pub usage_usec : List ℕ
  pub nr_periods : List ℕ
  pub nr_throttled : List ℕ
  pub throttled_usec : List ℕ
  pub nr_bursts : List ℕ
  pub burst_usec : List ℕ

-- the counters of six columns
abbrev pub counter_columns : List ℕ → List ℕ → List ℕ → List ℕ → List ℕ → List ℕ → Counters
counter_columns usage_usec nr_periods nr_throttled throttled_usec nr_bursts burst_usec =
    record {
      usage_usec = usage_usec;
      nr_periods = nr_periods;
      nr_throttled = nr_throttled;
      throttled_usec = throttled_usec;
      nr_bursts = nr_bursts;
      burst_usec = burst_usec;
    }

-- the program's counters, as lists
abbrev pub counters_of : CounterColumns → Counters
counters_of c =
    counter_columns c.usage_usec.now c.nr_periods.now c.nr_throttled.now c.throttled_usec.now
    c.nr_bursts.now c.burst_usec.now

-- the program's counters after a period, as lists
abbrev pub counters_in : BookedColumns → Counters
counters_in c =
    counter_columns c.usage_usec.items c.nr_periods.items c.nr_throttled.items
    c.throttled_usec.items c.nr_bursts.items c.burst_usec.items

-- one entry for each row in each column of counters
pub record AreCountersLong (counters : Counters) (count : ℕ) : Type 0 where
  pub usage_usec : length counters.usage_usec ≡ count
  pub nr_periods : length counters.nr_periods ≡ count
  pub nr_throttled : length counters.nr_throttled ≡ count
  pub throttled_usec : length counters.throttled_usec ≡ count
  pub nr_bursts : length counters.nr_bursts ≡ count
  pub burst_usec : length counters.burst_usec ≡ count

-- the counters of row g
abbrev pub stat_in : Counters → ℕ → Stat
stat_in counters g =
    record {
      usage_usec = slice_index counters.usage_usec g;
      nr_periods = slice_index counters.nr_periods g;
      nr_throttled = slice_index counters.nr_throttled g;
      throttled_usec = slice_index counters.throttled_usec g;
      nr_bursts = slice_index counters.nr_bursts g;
      burst_usec = slice_index counters.burst_usec g;
    }

-- the columns are those of the counters of each row
pub record AreCounters (stats : List Stat) (counters : Counters) : Type 0 where
  pub usage_usec : counters.usage_usec ≡ map (λ (s : Stat). s.usage_usec) stats
  pub nr_periods : counters.nr_periods ≡ map (λ (s : Stat). s.nr_periods) stats
  pub nr_throttled : counters.nr_throttled ≡ map (λ (s : Stat). s.nr_throttled) stats
  pub throttled_usec : counters.throttled_usec ≡ map (λ (s : Stat). s.throttled_usec) stats
  pub nr_bursts : counters.nr_bursts ≡ map (λ (s : Stat). s.nr_bursts) stats
  pub burst_usec : counters.burst_usec ≡ map (λ (s : Stat). s.burst_usec) stats

-- the counters of row g after a period, from the wants, the quotas and the drawn slices of the rows
abbrev pub stat_after : Groups → List ℕ → List ℕ → List ℕ → Counters → ℕ → Stat
stat_after groups wants quotas drawn before g =
    added (stat_in before g)
    (share_of groups.shape.slice_us (row_of groups.rows g) (limit_in (slice_index quotas g))
    (slice_index wants g) (slice_index drawn g))

-- the slices that row g leaves of its limit
abbrev pub carry_after : Groups → List ℕ → ℕ → ℕ
carry_after groups drawn g = left_of (row_of groups.rows g).limit (slice_index drawn g)

-- one period is counted for each row, and each carries what it left of its limit
pub record IsBookedPeriod (groups : Groups) (quotas drawn carries : List ℕ)
    (before after : Counters) : Type 0 where
  pub demands : Demands
  pub gathered : IsGathered groups demands
  pub counters : AreCounters
      (map (stat_after groups demands.want quotas drawn before)
      (range_with_len 0 (length groups.rows))) after
  pub carries_are : carries
      ≡ map (carry_after groups drawn) (range_with_len 0 (length groups.rows))
