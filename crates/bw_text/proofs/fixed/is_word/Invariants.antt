-- What stands at each turn of the loop in `is_word`.
use Rattle.std.proofs.Common.{◌≡◌, ◌<◌, ℕ, slice_index}
use Rattle.bw_text.proofs.fixed.is_word.Given as goal

abbrev pub invariant-loop-at : goal.invariant-loop-at
invariant-loop-at l = (k : ℕ) → k < l.at → slice_index l.bytes k ≡ slice_index l.wanted k
