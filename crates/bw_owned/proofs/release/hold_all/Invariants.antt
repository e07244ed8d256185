-- What stands at each turn of the loop in `hold_all`.
use Rattle.std.proofs.Common.{ℕ, ◌≡◌, ◌<◌, length, get_or}
use Rattle.bw_owned.proofs.release.hold_all.Given as goal

abbrev pub invariant-loop-k : goal.invariant-loop-k
invariant-loop-k l = record {
  lengths : length l.go ≡ length l.fn.go;
  each : (j : ℕ) → j < l.k → get_or l.go j 0 ≡ 0;
}
