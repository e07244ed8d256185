-- What stands at each turn of the loop in `added_up`.
use Rattle.std.proofs.Common.{◌≡◌, map}
use Rattle.std.specs.List.{range_with_len}
use Rattle.bw_columns.specs.Tallies.{plus, repeated, cut_all, tally_in}
use Rattle.bw_columns.proofs.tally.added_up.Given as goal

abbrev pub invariant-loop-g : goal.invariant-loop-g
invariant-loop-g l = l.found.items
    ≡ map (λ g. cut_all (plus (tally_in l.sums g) (repeated l.times (tally_in l.more g))))
    (range_with_len 0 l.g)
