-- Each turn counts a look and a yield, and the looks and spins after it.
use Rattle.std.proofs.Common.{◌+◌, ◌*◌, ◌<◌, ◌≤◌}
use Rattle.bw_ticket.specs.declared.limits.TheConstants.{MOST_SPUN}
use Rattle.bw_ticket.proofs.steps.yield_while_short.Given as goal

abbrev pub invariant-loop-yield : goal.invariant-loop-yield
invariant-loop-yield g l = record {
  few : l.awake.steps ≤ l.fn.awake.steps + (2 + MOST_SPUN) * l._yield;
  looked : 0 < l.awake.looks;
}
