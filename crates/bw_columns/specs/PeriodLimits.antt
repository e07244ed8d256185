-- The limit of a group in one period.
use Rattle.std.specs.Prelude.{ℕ, Result, Ok}
use Rattle.bw_model.specs.Host.{Shape}
use Rattle.bw_model.specs.Quota.{in_slices, slices_of}
use Rattle.bw_files.specs.declared.fault.FileFault.{FileFault}
use Rattle.bw_files.specs.Reading.{quota_in, period_in, burst_in, ◌>>=◌}
use Rattle.bw_tree.specs.Snapshot.{bursting}
use Rattle.bw_columns.specs.Asked.{limit_in, limit_number}

-- the limit of a period as a number: the quota and the slices carried in, at most the quota and the
-- burst; the first fault of the quota, the group's own period and the burst
abbrev pub limit_by : Shape → ℕ → ℕ → ℕ → ℕ → Result ℕ FileFault
limit_by shape quota_us own_period_us burst_us carry = do
  quota ← quota_in (limit_in quota_us)
  period ← period_in own_period_us
  burst ← burst_in burst_us
  Ok (limit_number (bursting carry (in_slices shape period burst) (slices_of shape period quota)))
