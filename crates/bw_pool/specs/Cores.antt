-- The state that a Core stands for, and what its fields keep.
use Rattle.std.specs.Prelude.{◌≡◌, ◌+◌, ◌≤◌, length}
use Rattle.std.specs.List.{count_by}
use Rattle.bw_machine.specs.Seats.{CoreState}
use Rattle.bw_pool.specs.declared.limits.TheConstants.{MAX_SEATS}
use Rattle.bw_pool.specs.declared.calls.PoolCall.{PoolCall}
use Rattle.bw_pool.specs.declared.calls.PoolReply.{PoolReply}
use Rattle.bw_pool.specs.Pool.{PoolState}
use Rattle.bw_machine.specs.Schedules.{has_called, is_on_its_way}
use Rattle.bw_pool.specs.declared.interleaving.Core.TheInside.{Inside}

-- the state of the core that the program's fields stand for
abbrev pub core_of : Inside → CoreState PoolState PoolCall PoolReply
core_of a = record {
  next = a.next;
  serving = a.serving;
  phases = a.phases.items;
  machine = a.pool;
  history = a.history.items;
}

-- the numbers of tickets and of entries are counts of the seats' phases
pub record IsCounted (a : Inside) : Type 0 where
  pub seats : length a.phases.items ≤ MAX_SEATS
  pub entries : length a.history.items ≡ a.serving + count_by has_called a.phases.items
  pub on_the_way : a.next ≡ length a.history.items + count_by is_on_its_way a.phases.items
