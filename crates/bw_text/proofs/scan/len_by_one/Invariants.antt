-- What stands at each turn of the loop in `len_by_one`.
use Rattle.std.specs.Prelude.{◌≡◌, ◌<◌, ℕ, false, slice_index}
use Rattle.bw_text.specs.Words.{is_either}
use Rattle.bw_text.proofs.scan.len_by_one.Given as goal

abbrev pub invariant-loop-at : goal.invariant-loop-at
invariant-loop-at l = (k : ℕ) → k < l.at → is_either l.one l.other (slice_index l.text k) ≡ false
