-- What stands at each turn of the loop in `lowest_limits`.
use Rattle.std.proofs.Common.{◌≡◌, map}
use Rattle.std.specs.List.{range_with_len}
use Rattle.bw_questions.specs.OtherLimits.{limit_at}
use Rattle.bw_questions.proofs.other_limits.free.lowest_limits.Given as goal

abbrev pub invariant-loop-h : goal.invariant-loop-h
invariant-loop-h l = record {
  done : l.limits.items ≡ map (limit_at l.instance l.goals l.lowest 0) (range_with_len 0 l.h);
}
