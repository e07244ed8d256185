-- What stands at each turn of the loop in `fits_in`.
use Rattle.std.proofs.Common.{◌≡◌, ◌+◌}
use Rattle.std.specs.Prelude.{sum, take}
use Rattle.bw_split.proofs.conditions.fits_in.Given as goal

abbrev pub invariant-loop-i : goal.invariant-loop-i
invariant-loop-i l = l.left + sum (take l.i l.numbers) ≡ l.bound
