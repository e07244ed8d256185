-- What stands at each turn of the loop in `let_most_go`.
use Rattle.std.proofs.Common.{ℕ, ◌≡◌, ◌+◌, ◌-◌, ◌^◌, ◌<◌, ◌≤◌, length, get_or}
use Rattle.bw_owned.specs.LetGo.{counted, gone, GoesBefore}
use Rattle.bw_owned.proofs.release.let_most_go.Given as goal

abbrev pub invariant-loop-gone : goal.invariant-loop-gone
invariant-loop-gone l = record {
  lengths : length l.go ≡ length l.fn.go;
  gone_is : l.gone ≡ gone l.slices l.go;
  range : l.gone ≤ l.needed + 2 ^ 64;
  only : (k : ℕ) → k < length l.slices → 0 < get_or l.go k 0 → l.least ≤ get_or l.counts k 0;
  most : (k other : ℕ) → k < length l.slices → other < length l.slices → 0 < get_or l.go k 0
      → get_or l.go other 0 ≡ 0 → l.least ≤ get_or l.counts other 0 → GoesBefore l.slices k other;
  few : (k : ℕ) → k < length l.slices → 0 < get_or l.go k 0
      → gone l.slices l.go < l.needed + counted (get_or l.slices k 0);
}

abbrev pub decreases-loop-gone : goal.decreases-loop-gone
decreases-loop-gone l = l.needed - l.gone
