-- What stands at each turn of the loop in `len_by`.
use Rattle.std.specs.Prelude.{◌≡◌, ◌<◌, ◌-◌, ℕ, false, length, slice_index}
use Rattle.bw_text.specs.Words.{is_either}
use Rattle.bw_text.proofs.scan.len_by.Given as goal

abbrev pub invariant-loop-at : goal.invariant-loop-at
invariant-loop-at g l =
    (k : ℕ) → k < l.at → is_either l.one l.other (slice_index l.text k) ≡ false

abbrev pub decreases-loop-at : goal.decreases-loop-at
decreases-loop-at g l = length l.text - l.at
