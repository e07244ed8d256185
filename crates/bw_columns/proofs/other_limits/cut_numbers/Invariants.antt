-- What stands at each turn of the loop in `cut_numbers`.
use Rattle.std.proofs.Common.{◌≡◌, map}
use Rattle.std.specs.List.{range_with_len}
use Rattle.bw_columns.specs.OtherLimits.{cut_number}
use Rattle.bw_columns.proofs.other_limits.cut_numbers.Given as goal

abbrev pub invariant-loop-h : goal.invariant-loop-h
invariant-loop-h l =
    l.numbers.items ≡ map (cut_number l.instance l.limits) (range_with_len 0 l.h)
