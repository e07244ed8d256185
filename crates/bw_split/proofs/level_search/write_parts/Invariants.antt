-- What stands at each turn of the loop in `write_parts`.
use Rattle.std.proofs.Common.{◌≡◌, ◌+◌, ◌≤◌}
use Rattle.bw_split.proofs.Picks.{IsWritten}
use Rattle.bw_split.proofs.level_search.write_parts.Given as goal

abbrev pub invariant-loop-i : goal.invariant-loop-i
invariant-loop-i l = record {
  written : IsWritten l.found.level l.found.rest l.left l.i l.weights l.fn.most l.most;
  rounds : l.work.rounds ≡ l.fn.work.rounds;
  picks : l.work.picks ≤ l.fn.work.picks + l.i;
  counted : l.fn.work.picks ≤ l.work.picks;
}
