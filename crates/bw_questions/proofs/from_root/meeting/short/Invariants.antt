-- What stands at each turn of the loop in `short`: no child before it falls short.
use Rattle.std.proofs.Common.{ℕ, ◌<◌, ◌≤◌, get_or}
use Rattle.bw_questions.proofs.from_root.meeting.short.Given as goal

abbrev pub invariant-loop-k : goal.invariant-loop-k
invariant-loop-k l = record {
  met : (k : ℕ) → k < l.k → get_or l.needs k 0 ≤ get_or l.parts k 0;
}
