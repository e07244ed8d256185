-- What stands at each turn of the loop in `any_marked`: no row before it is marked.
use Rattle.std.proofs.Common.{◌≡◌, ◌<◌, ℕ, false, get_or}
use Rattle.bw_questions.proofs.from_root.own.any_marked.Given as goal

abbrev pub invariant-loop-k : goal.invariant-loop-k
invariant-loop-k l = record {
  none : (j : ℕ) → j < l.k → get_or l.flags (get_or l.rows j 0) false ≡ false;
}
