-- The goals of `booked_columns` that are answered by hand.
use Rattle.std.proofs.Common.{rules}
use Rattle.bw_columns.proofs.booked.booked_columns.Goals as goal

pub returns-clause-counters : goal.returns-clause-counters
returns-clause-counters c =
    record {
      usage_usec = search rules;
      nr_periods = search rules;
      nr_throttled = search rules;
      throttled_usec = search rules;
      nr_bursts = search rules;
      burst_usec = search rules;
    }
