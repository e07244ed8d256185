-- Each turn counts a look and a spin.
use Rattle.std.proofs.Common.{◌+◌, ◌*◌, ◌<◌, ◌≤◌}
use Rattle.bw_ticket.proofs.steps.spin_while_near.Given as goal

abbrev pub invariant-loop-look : goal.invariant-loop-look
invariant-loop-look g l = record {
  few : l.awake.steps ≤ l.fn.awake.steps + 2 * l._look;
  looked : 0 < l.awake.looks;
}
