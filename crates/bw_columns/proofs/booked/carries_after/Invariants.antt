-- What stands at each turn of the loop in `carries_after`.
use Rattle.std.proofs.Common.{◌≡◌, map}
use Rattle.std.specs.List.{range_with_len}
use Rattle.bw_columns.specs.Booked.{carry_after}
use Rattle.bw_columns.proofs.booked.carries_after.Given as goal

abbrev pub invariant-loop-g : goal.invariant-loop-g
invariant-loop-g l =
    l.carries.items ≡ map (carry_after l.instance l.drawn) (range_with_len 0 l.g)
