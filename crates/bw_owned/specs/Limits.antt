-- Quotas and own periods of numbers that owners set.
use Rattle.std.specs.Prelude.{ℕ, ◌*◌, ◌/◌, ◌==◌, min, max, Option, Some, None, if◌then◌else◌}
use Rattle.bw_model.specs.declared.limits.TheConstants.{MIN_QUOTA_US, MAX_QUOTA_US}
use Rattle.bw_model.specs.declared.limits.TheConstants.{MIN_PERIOD_US, MAX_PERIOD_US}
use Rattle.bw_owned.specs.declared.limit.TheConstants.{DEFAULT_PERIOD_US, SECOND_US, CPU}
use Rattle.bw_owned.specs.declared.limit.TheConstants.{BILLION}
use Rattle.bw_owned.specs.declared.limit.OwnedLimit.{OwnedLimit}
use Rattle.bw_owned.specs.declared.formula.LimitFormula.{LimitFormula}
use Rattle.bw_owned.specs.declared.formula.LimitFormula.TheVariants.{Thousandths, Billionths}
use Rattle.bw_owned.specs.declared.formula.LimitFormula.TheVariants.{Quota, PerSecond}

-- the nearest quota that the kernel takes, in microseconds (sched-bwc.rst, "Management")
abbrev pub bounded_quota : ℕ → ℕ
bounded_quota quota = min (max quota MIN_QUOTA_US) MAX_QUOTA_US

-- the nearest period that the kernel takes, in microseconds (sched-bwc.rst, "Management")
abbrev pub bounded_period : ℕ → ℕ
bounded_period period = min (max period MIN_PERIOD_US) MAX_PERIOD_US

-- the own period that an owner set, in microseconds: the usual one for 0
abbrev pub own_period : ℕ → ℕ
own_period period = if period == 0 then DEFAULT_PERIOD_US else bounded_period period

-- the quota for a whole number of microseconds, of which 0 set none
abbrev pub quota_unless_zero : ℕ → Option ℕ
quota_unless_zero quota = if quota == 0 then None else Some (bounded_quota quota)

-- The quota of thousandths of a CPU, of which 0 set none: so many thousandths of the period,
-- rounded down (kubelet's `MilliCPUToQuota`).
abbrev pub quota_of_thousandths : ℕ → ℕ → Option ℕ
quota_of_thousandths number period =
    if number == 0 then None else Some (bounded_quota (number * period / CPU))

-- the limit of thousandths of a CPU
abbrev pub limit_of_thousandths : ℕ → ℕ → OwnedLimit
limit_of_thousandths number period = record {
  quota = quota_of_thousandths number (own_period period);
  period_us = own_period period;
}

-- The limit of billionths of a CPU: so much of the usual period, rounded down (docker's
-- `NanoCPUs`).
abbrev pub limit_of_billionths : ℕ → OwnedLimit
limit_of_billionths number = record {
  quota = quota_unless_zero (number * DEFAULT_PERIOD_US / BILLION);
  period_us = DEFAULT_PERIOD_US;
}

-- the limit of microseconds of a period (docker's `CpuQuota` and `CpuPeriod`)
abbrev pub limit_of_quota : ℕ → ℕ → OwnedLimit
limit_of_quota number period = record {
  quota = quota_unless_zero number;
  period_us = own_period period;
}

-- The own period for microseconds of each second: so long that the quota is the least that the
-- kernel takes, rounded down (systemd's `cgroup_cpu_adjust_period`).
abbrev pub adjusted_period : ℕ → ℕ → ℕ
adjusted_period number period =
    bounded_period (max (MIN_QUOTA_US * SECOND_US / max number 1) (own_period period))

-- The limit of microseconds of each second: so much of the adjusted period, rounded down.
abbrev pub limit_of_rate : ℕ → ℕ → OwnedLimit
limit_of_rate number period = record {
  quota = Some (bounded_quota (number * adjusted_period number period / SECOND_US));
  period_us = adjusted_period number period;
}

-- the limit of a number and of the period that was set beside it, 0 for none
abbrev pub limit_by : LimitFormula → ℕ → ℕ → OwnedLimit
limit_by Thousandths number period = limit_of_thousandths number period
limit_by Billionths number period = limit_of_billionths number
limit_by Quota number period = limit_of_quota number period
limit_by PerSecond number period = limit_of_rate number period
