-- What stands at each turn of the loop in `no_tallies`.
use Rattle.std.proofs.Common.{◌≡◌, map}
use Rattle.std.specs.List.{range_with_len}
use Rattle.bw_columns.specs.Tallies.{none}
use Rattle.bw_columns.proofs.tally.no_tallies.Given as goal

abbrev pub invariant-loop-g : goal.invariant-loop-g
invariant-loop-g l = l.tallies.items ≡ map (λ _. none) (range_with_len 0 l.g)
