-- Times that limits allow.
use Rattle.std.specs.Prelude.{ℕ, ◌+◌, ◌*◌, ◌/◌}
use Rattle.bw_owned.specs.declared.allowed.TheConstants.{MICRO_NS}

-- Nanoseconds that a limit allows in so many nanoseconds: the part of the time that the quota is of
-- the own period, rounded down, and the burst. Quota, own period and burst are in microseconds
-- (sched-bwc.rst, "Management").
abbrev pub allowed_time : ℕ → ℕ → ℕ → ℕ → ℕ
allowed_time quota period burst passed = quota * passed / period + burst * MICRO_NS
