-- What stands at each turn of the loop in `tallies_of`.
use Rattle.std.proofs.Common.{◌≡◌, map, slice_index}
use Rattle.std.specs.List.{range_with_len}
use Rattle.bw_model.specs.Groups.{row_of}
use Rattle.bw_columns.specs.Tallies.{tally_of}
use Rattle.bw_columns.proofs.one_period.tallies_of.Given as goal

abbrev pub invariant-loop-g : goal.invariant-loop-g
invariant-loop-g l = l.tallies.items
    ≡ map (λ g. tally_of l.slice_us (row_of l.rows g) (row_of l.asked g).limit
    (slice_index l.wants g) (slice_index l.amounts g)) (range_with_len 0 l.g)
