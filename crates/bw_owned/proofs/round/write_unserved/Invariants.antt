-- What stands at each turn of the loop in `write_unserved`.
use Rattle.std.proofs.Common.{◌≡◌, ◌<◌, ℕ, length, get_or}
use Rattle.bw_owned.specs.Round.{unserved}
use Rattle.bw_owned.proofs.round.write_unserved.Given as goal

abbrev pub invariant-loop-k : goal.invariant-loop-k
invariant-loop-k l = record {
  lengths : length l.lacks ≡ length l.fn.lacks;
  written : (j : ℕ) → j < l.k → get_or l.lacks j 0
      ≡ unserved (get_or l.planned j 0) (get_or l.used j 0) (get_or l.hungry j 0);
}
