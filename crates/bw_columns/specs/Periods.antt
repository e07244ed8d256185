-- Periods of a host one after another, and what they add up to.
use Rattle.std.specs.Prelude.{◌≡◌, ◌⊎◌, ℕ, zero, suc, ◌+◌, ◌*◌, ◌/◌, ◌%◌, ◌==◌, ◌&&◌, min, List, []}
use Rattle.std.specs.Prelude.{◌∷◌, ◌++◌, Bool, true, false, Option, None, Some, Result, Ok, Err}
use Rattle.std.specs.Prelude.{length, map, take, drop, slice_index, unwrap_or, nat_lt}
use Rattle.std.specs.List.{range_with_len}
use Rattle.std.specs.Option.{option_map_or}
use Rattle.bw_model.specs.declared.row.Row.{Row}
use Rattle.bw_model.specs.declared.host.HostFault.{HostFault}
use Rattle.bw_model.specs.declared.quota.Quota.{Quota}
use Rattle.bw_model.specs.declared.quota.Quota.TheVariants.{Max, Micros}
use Rattle.bw_model.specs.Host.{Shape}
use Rattle.bw_model.specs.Quota.{in_slices, slices_of}
use Rattle.bw_model.specs.Groups.{row_of}
use Rattle.bw_model.specs.Plan.{IsPlan}
use Rattle.bw_model.specs.Refusal.{refusal}
use Rattle.bw_model.specs.Faults.{host_fault_number, instance_fault_number}
use Rattle.bw_demand.specs.Demands.{Demands, IsGathered}
use Rattle.bw_files.specs.declared.fault.FileFault.{FileFault}
use Rattle.bw_files.specs.Faults.{file_fault_number}
use Rattle.bw_tree.specs.Snapshot.{left_of}
use Rattle.bw_columns.specs.declared.tally.Tally.{Tally}
use Rattle.bw_columns.specs.declared.set_rows.SettingColumns.{SettingColumns}
use Rattle.bw_columns.specs.Asked.{parent_in, limit_in, Answers}
use Rattle.bw_columns.specs.PeriodLimits.{limit_by}
use Rattle.bw_columns.specs.PlannedHosts.{groups_on, IsPlannedHost, IsUnplannedHost}
use Rattle.bw_columns.specs.Questions.{first_refusal}
use Rattle.bw_columns.specs.Tallies.{Sums, AreSums, tally_of, none, plus, cut_all}

-- the groups by column: quotas and bursts in microseconds of each own period
pub record Settings : Type 0 where
  pub parents : List ℕ
  pub weights : List ℕ
  pub quotas : List ℕ
  pub periods : List ℕ
  pub bursts : List ℕ

-- the settings of five columns
abbrev pub setting_columns : List ℕ → List ℕ → List ℕ → List ℕ → List ℕ → Settings
setting_columns parents weights quotas periods bursts = record {
  parents = parents;
  weights = weights;
  quotas = quotas;
  periods = periods;
  bursts = bursts;
}

-- the program's settings, as lists
abbrev pub settings_of : SettingColumns → Settings
settings_of c = setting_columns c.parents.now c.weights.now c.quotas.now c.periods.now c.bursts.now

-- the quota that a number gives
abbrev pub quota_named : Option ℕ → Quota
quota_named None = Max
quota_named (Some us) = Micros us

-- the quota of a group in slices, none for no limit
abbrev pub quota_slices : Shape → ℕ → ℕ → Option ℕ
quota_slices shape quota_us period_us = slices_of shape period_us (quota_named (limit_in quota_us))

-- the most slices that a group may use in one period: its quota and its burst
abbrev pub most_slices : Shape → ℕ → ℕ → ℕ → ℕ
most_slices shape quota_us period_us burst_us =
    unwrap_or (quota_slices shape quota_us period_us) 0 + in_slices shape period_us burst_us

-- the number of a refused value, 0 for another
abbrev pub refused_number : Result ℕ FileFault → ℕ
refused_number (Ok value) = 0
refused_number (Err fault) = file_fault_number fault

-- the number that refuses the settings of one group, 0 for none
abbrev pub setting_number : Shape → ℕ → ℕ → ℕ → ℕ
setting_number shape quota_us period_us burst_us =
    refused_number (limit_by shape quota_us period_us burst_us 0)

-- the number that refuses the settings of group g, 0 for none
abbrev pub setting_number_at : Shape → Settings → ℕ → ℕ
setting_number_at shape settings g =
    setting_number shape (slice_index settings.quotas g) (slice_index settings.periods g)
    (slice_index settings.bursts g)

-- the row of group g without a demand: its limit is its quota
abbrev pub set_row : Shape → Settings → ℕ → Row
set_row shape settings g = record {
  parent = parent_in (slice_index settings.parents g);
  weight = slice_index settings.weights g;
  limit = quota_slices shape (slice_index settings.quotas g) (slice_index settings.periods g);
  demand = 0;
}

-- the rows of the groups without demands
abbrev pub set_rows : Shape → Settings → List Row
set_rows shape settings =
    map (set_row shape settings) (range_with_len 0 (length settings.parents))

-- the most slices of each group in one period
abbrev pub most_at : Shape → Settings → ℕ → ℕ
most_at shape settings g =
    most_slices shape (slice_index settings.quotas g) (slice_index settings.periods g)
    (slice_index settings.bursts g)

abbrev pub mosts_of : Shape → Settings → List ℕ
mosts_of shape settings = map (most_at shape settings) (range_with_len 0 (length settings.parents))

-- a row with a demand
abbrev pub row_asking : List Row → List ℕ → ℕ → Row
row_asking rows demands g = record {
  parent = (row_of rows g).parent;
  weight = (row_of rows g).weight;
  limit = (row_of rows g).limit;
  demand = slice_index demands g;
}

-- the rows with demands
abbrev pub rows_asking : List Row → List ℕ → List Row
rows_asking rows demands = map (row_asking rows demands) (range_with_len 0 (length rows))

-- the limit of a period: the quota and the slices carried in, at most the quota and the burst
abbrev pub limit_with : ℕ → ℕ → Option ℕ → Option ℕ
limit_with carry most None = None
limit_with carry most (Some quota) = Some (min (carry + quota) most)

-- the row of a period, from the one whose limit is the quota
abbrev pub period_row : List Row → List ℕ → List ℕ → ℕ → Row
period_row asked mosts carries g = record {
  parent = (row_of asked g).parent;
  weight = (row_of asked g).weight;
  limit = limit_with (slice_index carries g) (slice_index mosts g) (row_of asked g).limit;
  demand = (row_of asked g).demand;
}

abbrev pub period_rows : List Row → List ℕ → List ℕ → List Row
period_rows asked mosts carries =
    map (period_row asked mosts carries) (range_with_len 0 (length asked))

-- one period: its rows, what the groups want and are given, and what each leaves of its limit
pub record Period : Type 0 where
  pub rows : List Row
  pub wants : List ℕ
  pub amounts : List ℕ
  pub left : List ℕ

-- the slices that group g leaves of its limit
abbrev pub left_at : List Row → List ℕ → ℕ → ℕ
left_at rows amounts g = left_of (row_of rows g).limit (slice_index amounts g)

-- A period of a host after some carries. The groups are given the plan of their limits and demands.
pub record IsPeriod (shape : Shape) (asked : List Row) (mosts carries : List ℕ) (period : Period)
    : Type 0 where
  pub rows_are : period.rows ≡ period_rows asked mosts carries
  pub demands : Demands
  pub gathered : IsGathered (groups_on shape period.rows) demands
  pub wants_are : period.wants ≡ demands.want
  pub plan : IsPlan (groups_on shape period.rows) period.amounts
  pub left_are : period.left
      ≡ map (left_at period.rows period.amounts) (range_with_len 0 (length asked))

-- Periods of one host and the same demands. Each begins with what the one before left.
abbrev pub AreSuccessive : Shape → List Row → List ℕ → List ℕ → List Period → List ℕ → Type 0
AreSuccessive shape asked mosts carries [] after = after ≡ carries
AreSuccessive shape asked mosts carries (p ∷ ps) after =
    IsPeriod shape asked mosts carries p × AreSuccessive shape asked mosts p.left ps after

-- the numbers of group g in one period
abbrev pub tally_at : ℕ → List Row → Period → ℕ → Tally
tally_at slice_us asked p g =
    tally_of slice_us (row_of p.rows g) (row_of asked g).limit (slice_index p.wants g)
    (slice_index p.amounts g)

-- A period of a host after some carries: the numbers of each group, and what each leaves.
pub record IsToldPeriod (shape : Shape) (slice_us : ℕ) (asked : List Row) (mosts carries : List ℕ)
    (tallies : List Tally) (after : List ℕ) : Type 0 where
  pub period : Period
  pub held : IsPeriod shape asked mosts carries period
  pub tallies_are : tallies ≡ map (tally_at slice_us asked period) (range_with_len 0 (length asked))
  pub left_are : after ≡ period.left

-- the numbers of group g in some periods
abbrev pub summed : ℕ → List Row → List Period → ℕ → Tally
summed slice_us asked [] g = none
summed slice_us asked (p ∷ ps) g = plus (tally_at slice_us asked p g) (summed slice_us asked ps g)

-- the numbers of each group in some periods, each at most the greatest number
abbrev pub sums_of : ℕ → List Row → List Period → List Tally
sums_of slice_us asked periods =
    map (λ g. cut_all (summed slice_us asked periods g)) (range_with_len 0 (length asked))

-- A sample: so many periods of the same demands.
pub record IsSample (shape : Shape) (slice_us : ℕ) (asked : List Row) (mosts : List ℕ) (times : ℕ)
    (carries : List ℕ) (tallies : List Tally) (after : List ℕ) : Type 0 where
  pub periods : List Period
  pub count : length periods ≡ times
  pub successive : AreSuccessive shape asked mosts carries periods after
  pub sums : tallies ≡ sums_of slice_us asked periods

-- Samples one after another, from the demands of each group in the first, then in the next. Each
-- begins with what the one before left.
abbrev pub AreSamples : Shape → ℕ → List Row → List ℕ → ℕ → ℕ → List ℕ → List ℕ → List Tally
    → List ℕ → Type 0
AreSamples shape slice_us rows mosts times zero demands carries tallies after =
    (tallies ≡ []) × (after ≡ carries)
AreSamples shape slice_us rows mosts times (suc count) demands carries tallies after =
    (first rest : List Tally) × (between : List ℕ)
    × IsSample shape slice_us (rows_asking rows (take (length rows) demands)) mosts times carries
    first between
    × AreSamples shape slice_us rows mosts times count (drop (length rows) demands) between rest
    after
    × (tallies ≡ first ++ rest)

-- the first number other than 0 of a function at some places, 0 where there is none
abbrev pub first_number : (ℕ → ℕ) → List ℕ → ℕ
first_number f [] = 0
first_number f (k ∷ ks) = first_refusal (f k) (first_number f ks)

-- the demands of sample k
abbrev pub demands_at : ℕ → List ℕ → ℕ → List ℕ
demands_at width demands k = take width (drop (k * width) demands)

-- the number that refuses rows with the demands of sample k, 0 for none
abbrev pub sample_number : List Row → List ℕ → ℕ → ℕ
sample_number rows demands k =
    option_map_or instance_fault_number
    (refusal (rows_asking rows (demands_at (length rows) demands k))) 0

-- the number that refuses rows with the demands of one of so many samples, 0 for none
abbrev pub samples_number : List Row → ℕ → List ℕ → ℕ
samples_number rows count demands =
    first_number (sample_number rows demands) (range_with_len 0 count)

-- the number that refuses the settings of one of the groups, 0 for none
abbrev pub settings_number : Shape → Settings → ℕ
settings_number shape settings =
    first_number (setting_number_at shape settings) (range_with_len 0 (length settings.parents))

-- the number that refuses settings and samples of a host, 0 for none
unfoldable pub periods_number : Shape → Settings → ℕ → List ℕ → ℕ
periods_number shape settings count demands =
    first_refusal (settings_number shape settings)
    (samples_number (set_rows shape settings) count demands)

-- the answer to columns that fit: the number of a host that is not planned, or of the settings and
-- the samples
abbrev pub IsFitAnswer : Shape → Settings → ℕ → List ℕ → ℕ → Type 0
IsFitAnswer shape settings count demands number =
    ((fault : HostFault) × IsUnplannedHost shape fault × (number ≡ host_fault_number fault))
    ⊎ ((planned : Shape) × IsPlannedHost shape planned
    × Answers (periods_number shape settings count demands) number)

-- the answer to settings and samples of a host: 50 where the columns do not fit
abbrev pub IsPeriodsAnswer : Bool → Shape → Settings → ℕ → List ℕ → ℕ → Type 0
IsPeriodsAnswer false shape settings count demands number = number ≡ 50
IsPeriodsAnswer true shape settings count demands number =
    IsFitAnswer shape settings count demands number

-- whether cells are those of one sample or more of so many groups
abbrev pub are_whole : ℕ → ℕ → Bool
are_whole cells width = nat_lt 0 width && nat_lt 0 cells && (cells % width == 0)

-- the samples of a planned host by column, the cells of each sample behind those of the one before
pub record ArePlannedSamples (planned shape : Shape) (settings : Settings) (times count : ℕ)
    (demands carries after : List ℕ) (sums : Sums) : Type 0 where
  pub tallies : List Tally
  pub samples : AreSamples planned shape.slice_us (set_rows shape settings)
      (mosts_of shape settings) times count demands carries tallies after
  pub sums_are : AreSums tallies sums

-- the samples of a host by column, which is planned as it is or as another one of its capacity
pub record AreToldSamples (shape : Shape) (settings : Settings) (times : ℕ)
    (demands carries after : List ℕ) (sums : Sums) : Type 0 where
  pub planned : Shape
  pub host : IsPlannedHost shape planned
  pub samples : ArePlannedSamples planned shape settings times
      (length demands / length settings.parents) demands carries after sums
