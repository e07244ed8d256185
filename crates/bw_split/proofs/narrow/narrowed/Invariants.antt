-- What stands at each turn of the loop in `narrowed`.
use Rattle.std.proofs.Common.{◌≡◌, take}
use Rattle.bw_split.specs.Conditions.{cut_at}
use Rattle.bw_split.proofs.narrow.narrowed.Given as goal

abbrev pub invariant-loop-number : goal.invariant-loop-number
invariant-loop-number l = l.narrow.items ≡ cut_at l.bound (take l.number-index l.numbers)
