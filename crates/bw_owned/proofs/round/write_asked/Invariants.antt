-- What stands at each turn of the loop in `write_asked`.
use Rattle.std.proofs.Common.{◌≡◌, ◌<◌, ℕ, length, get_or}
use Rattle.bw_owned.specs.Round.{asked_column}
use Rattle.bw_owned.proofs.round.write_asked.Given as goal

abbrev pub invariant-loop-k : goal.invariant-loop-k
invariant-loop-k l = record {
  lengths : length l.column ≡ length l.fn.column;
  written : (j : ℕ) → j < l.k
      → get_or l.column j 0 ≡ asked_column (get_or l.used j 0) (get_or l.asked j 0);
}
