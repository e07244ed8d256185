-- The numbers that periods add up to for each group.
use Rattle.std.specs.Prelude.{◌≡◌, ℕ, ◌+◌, ◌*◌, ◌==◌, ◌&&◌, Bool, false, nat_lt, List, length, map}
use Rattle.std.specs.Prelude.{Option, None, Some, slice_index_or}
use Rattle.bw_model.specs.declared.row.Row.{Row}
use Rattle.bw_model.specs.declared.stat.Stat.{Stat}
use Rattle.bw_stat.specs.Books.{added, cut, periods_if, share_of, zeros}
use Rattle.bw_columns.specs.declared.tally.Tally.{Tally}
use Rattle.bw_columns.specs.declared.sum_columns.SumColumns.{SumColumns}
use Rattle.bw_columns.specs.Asked.{limit_number}

-- the counters of `cpu.stat` of a group after one period, from its quota, want and amount in slices
abbrev pub stat_of : ℕ → Row → Option ℕ → ℕ → ℕ → Stat
stat_of slice_us row quota want amount = added zeros (share_of slice_us row quota want amount)

-- whether an amount is below a limit
abbrev pub is_below : ℕ → Option ℕ → Bool
is_below amount None = false
is_below amount (Some limit) = nat_lt amount limit

-- whether a group is throttled, and not by its own limit: it got less
abbrev pub is_short : ℕ → Row → Option ℕ → ℕ → ℕ → Bool
is_short slice_us row quota want amount =
    (share_of slice_us row quota want amount).is_throttled && is_below amount row.limit

-- whether a group wants something and gets nothing
abbrev pub is_starved : ℕ → ℕ → Bool
is_starved want amount = nat_lt 0 want && (amount == 0)

-- the numbers of one group in one period, from its quota, want and amount in slices
abbrev pub tally_of : ℕ → Row → Option ℕ → ℕ → ℕ → Tally
tally_of slice_us row quota want amount = record {
  amount = amount;
  want = want;
  limit = limit_number row.limit;
  nr_throttled = (stat_of slice_us row quota want amount).nr_throttled;
  throttled_usec = (stat_of slice_us row quota want amount).throttled_usec;
  nr_bursts = (stat_of slice_us row quota want amount).nr_bursts;
  burst_usec = (stat_of slice_us row quota want amount).burst_usec;
  nr_short = periods_if (is_short slice_us row quota want amount);
  nr_starved = periods_if (is_starved want amount);
}

-- no period
abbrev pub none : Tally
none = record {
  amount = 0;
  want = 0;
  limit = 0;
  nr_throttled = 0;
  throttled_usec = 0;
  nr_bursts = 0;
  burst_usec = 0;
  nr_short = 0;
  nr_starved = 0;
}

-- the numbers of both
abbrev pub plus : Tally → Tally → Tally
plus a b = record {
  amount = a.amount + b.amount;
  want = a.want + b.want;
  limit = a.limit + b.limit;
  nr_throttled = a.nr_throttled + b.nr_throttled;
  throttled_usec = a.throttled_usec + b.throttled_usec;
  nr_bursts = a.nr_bursts + b.nr_bursts;
  burst_usec = a.burst_usec + b.burst_usec;
  nr_short = a.nr_short + b.nr_short;
  nr_starved = a.nr_starved + b.nr_starved;
}

-- the numbers, each so many times
abbrev pub repeated : ℕ → Tally → Tally
repeated times t = record {
  amount = t.amount * times;
  want = t.want * times;
  limit = t.limit * times;
  nr_throttled = t.nr_throttled * times;
  throttled_usec = t.throttled_usec * times;
  nr_bursts = t.nr_bursts * times;
  burst_usec = t.burst_usec * times;
  nr_short = t.nr_short * times;
  nr_starved = t.nr_starved * times;
}

-- each number stops at its greatest value
abbrev pub cut_all : Tally → Tally
cut_all t = record {
  amount = cut t.amount;
  want = cut t.want;
  limit = cut t.limit;
  nr_throttled = cut t.nr_throttled;
  throttled_usec = cut t.throttled_usec;
  nr_bursts = cut t.nr_bursts;
  burst_usec = cut t.burst_usec;
  nr_short = cut t.nr_short;
  nr_starved = cut t.nr_starved;
}

-- the numbers of group g
abbrev pub tally_in : List Tally → ℕ → Tally
tally_in tallies g = slice_index_or tallies g none

-- the numbers of the groups by column
pub record Sums : Type 0 where
  pub amounts : List ℕ
  pub wants : List ℕ
  pub limits : List ℕ
  pub nr_throttled : List ℕ
  pub throttled_usec : List ℕ
  pub nr_bursts : List ℕ
  pub burst_usec : List ℕ
  pub nr_short : List ℕ
  pub nr_starved : List ℕ

-- the numbers of nine columns
abbrev pub sum_columns : List ℕ → List ℕ → List ℕ → List ℕ → List ℕ → List ℕ → List ℕ → List ℕ
    → List ℕ → Sums
sum_columns amounts wants limits nr_throttled throttled_usec nr_bursts burst_usec nr_short
    nr_starved =
    record {
      amounts = amounts;
      wants = wants;
      limits = limits;
      nr_throttled = nr_throttled;
      throttled_usec = throttled_usec;
      nr_bursts = nr_bursts;
      burst_usec = burst_usec;
      nr_short = nr_short;
      nr_starved = nr_starved;
    }

-- the program's sums, as lists
abbrev pub sums_in : SumColumns → Sums
sums_in c =
    sum_columns c.amounts.items c.wants.items c.limits.items c.nr_throttled.items
    c.throttled_usec.items c.nr_bursts.items c.burst_usec.items c.nr_short.items c.nr_starved.items

-- the columns are those of the numbers
pub record AreSums (tallies : List Tally) (sums : Sums) : Type 0 where
  pub amounts : sums.amounts ≡ map (λ (t : Tally). t.amount) tallies
  pub wants : sums.wants ≡ map (λ (t : Tally). t.want) tallies
  pub limits : sums.limits ≡ map (λ (t : Tally). t.limit) tallies
  pub nr_throttled : sums.nr_throttled ≡ map (λ (t : Tally). t.nr_throttled) tallies
  pub throttled_usec : sums.throttled_usec ≡ map (λ (t : Tally). t.throttled_usec) tallies
  pub nr_bursts : sums.nr_bursts ≡ map (λ (t : Tally). t.nr_bursts) tallies
  pub burst_usec : sums.burst_usec ≡ map (λ (t : Tally). t.burst_usec) tallies
  pub nr_short : sums.nr_short ≡ map (λ (t : Tally). t.nr_short) tallies
  pub nr_starved : sums.nr_starved ≡ map (λ (t : Tally). t.nr_starved) tallies

-- one length for all columns
pub record AreSumsLong (sums : Sums) (count : ℕ) : Type 0 where
  pub amounts : length sums.amounts ≡ count
  pub wants : length sums.wants ≡ count
  pub limits : length sums.limits ≡ count
  pub nr_throttled : length sums.nr_throttled ≡ count
  pub throttled_usec : length sums.throttled_usec ≡ count
  pub nr_bursts : length sums.nr_bursts ≡ count
  pub burst_usec : length sums.burst_usec ≡ count
  pub nr_short : length sums.nr_short ≡ count
  pub nr_starved : length sums.nr_starved ≡ count
