-- The law that joins a period's limits with the limit of a group in one period.
use Rattle.std.specs.Prelude.{◌≡◌, ℕ, Ok}
use Rattle.bw_model.specs.Host.{Shape}
use Rattle.bw_columns.specs.Asked.{limit_number}
use Rattle.bw_columns.specs.PeriodLimits.{limit_by}
use Rattle.bw_columns.specs.Periods.{setting_number, limit_with, most_slices, quota_slices}

-- settings that are not refused give each period the limit that they give one group in one period
abbrev pub PeriodLimitsAreThoseAsked : Type 0
PeriodLimitsAreThoseAsked =
    (shape : Shape) (quota_us period_us burst_us carry : ℕ)
    → setting_number shape quota_us period_us burst_us ≡ 0
    → limit_by shape quota_us period_us burst_us carry
    ≡ Ok (limit_number (limit_with carry (most_slices shape quota_us period_us burst_us)
    (quota_slices shape quota_us period_us)))
