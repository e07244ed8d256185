-- The numbers that refuse a conversion.
use Rattle.std.specs.Prelude.{ℕ, ◌==◌, Bool, not, nat_lt, nat_le, Result, Ok, Err, if◌then◌else◌}
use Rattle.std.specs.Option.{option_map_or}
use Rattle.bw_model.specs.declared.limits.TheConstants.{MAX_DEMAND, MAX_QUOTA_US}
use Rattle.bw_model.specs.Host.{Shape, host_refusal}
use Rattle.bw_model.specs.Faults.{host_fault_number}
use Rattle.bw_files.specs.declared.fault.FileFault.{FileFault}
use Rattle.bw_files.specs.Faults.{file_fault_number}
use Rattle.bw_files.specs.Reading.{burst_in, period_in}
use Rattle.bw_columns.specs.Demand.{slices_for}
use Rattle.bw_columns.specs.PeriodLimits.{limit_by}
use Rattle.bw_questions.specs.declared.held.leaf.LeafTimes.{LeafTimes}
use Rattle.bw_questions.specs.declared.held.reading.RoundTimes.{RoundTimes}
use Rattle.bw_questions.specs.Written.{quota_of_limit, with_part}

-- the number of a refused value, else another number
abbrev pub refused_or : Result ℕ FileFault → ℕ → ℕ
refused_or (Ok value) rest = rest
refused_or (Err fault) rest = file_fault_number fault

-- the number of the first refusal of a host, then of a time, then of its own period, 0 for none
abbrev pub slices_refusal : Shape → ℕ → ℕ → ℕ
slices_refusal shape period us =
    option_map_or host_fault_number (host_refusal shape)
    (refused_or (burst_in us) (refused_or (period_in period) 0))

-- the number of the first refusal of a host, then of a denominator of 0, then of a demand, 0 for
-- none
abbrev pub demand_refusal : Shape → ℕ → ℕ → ℕ
demand_refusal shape numerator denominator =
    option_map_or host_fault_number (host_refusal shape)
    (if denominator == 0 then 11
    else if nat_lt MAX_DEMAND (slices_for shape numerator denominator) then 9
    else 0)

-- the times of a round, in which a number other than 0 says that the group was throttled
abbrev pub times_of : ℕ → ℕ → ℕ → ℕ → ℕ → ℕ → RoundTimes
times_of passed used waited tasks throttled allowed = record {
  passed_ns = passed;
  used_us = used;
  waited_us = waited;
  tasks = tasks;
  is_throttled = not (throttled == 0);
  allowed_us = allowed;
}

-- the times of a leaf of a scheduler in a round
abbrev pub leaf_times_of : ℕ → ℕ → ℕ → ℕ → LeafTimes
leaf_times_of passed used waited some = record {
  passed = passed;
  used = used;
  waited = waited;
  some_waited = some;
}

-- the number of the first refusal of columns of tasks that do not fit, then of a host, then of a
-- round in which no time passed, 0 for none
abbrev pub reading_refusal : Bool → Shape → ℕ → ℕ
reading_refusal fit shape passed =
    if fit
    then option_map_or host_fault_number (host_refusal shape) (if passed == 0 then 15 else 0)
    else 50

-- the number of the first refusal of a host, then of a limit whose quota may not be written, 0 for
-- none
abbrev pub written_refusal : Shape → ℕ → ℕ
written_refusal shape limit =
    option_map_or host_fault_number (host_refusal shape)
    (if nat_le (with_part 64 (quota_of_limit shape limit)) MAX_QUOTA_US then 0 else 14)

-- the number of the first refusal of a host, then of the settings of a group, 0 for none
abbrev pub limit_refusal : Shape → ℕ → ℕ → ℕ → ℕ → ℕ
limit_refusal shape quota_us own_period_us burst_us carry =
    option_map_or host_fault_number (host_refusal shape)
    (refused_or (limit_by shape quota_us own_period_us burst_us carry) 0)
