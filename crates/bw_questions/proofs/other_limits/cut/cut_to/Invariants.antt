-- What stands at each turn of the loop in `cut_to`.
use Rattle.std.proofs.Common.{◌≡◌, map}
use Rattle.std.specs.List.{range_with_len}
use Rattle.bw_questions.specs.OtherLimits.{cut_row}
use Rattle.bw_questions.proofs.other_limits.cut.cut_to.Given as goal

abbrev pub invariant-loop-h : goal.invariant-loop-h
invariant-loop-h l = record {
  done : l.rows.items ≡ map (cut_row l.instance l.limits) (range_with_len 0 l.h);
}
