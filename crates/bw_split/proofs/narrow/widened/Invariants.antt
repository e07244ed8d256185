-- What stands at each turn of the loop in `widened`.
use Rattle.std.proofs.Common.{◌≡◌, take}
use Rattle.bw_split.proofs.narrow.widened.Given as goal

abbrev pub invariant-loop-number : goal.invariant-loop-number
invariant-loop-number l = l.wide.items ≡ take l.number-index l.numbers
