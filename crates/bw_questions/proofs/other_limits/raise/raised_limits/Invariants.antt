-- What stands at each turn of the loop in `raised_limits`.
use Rattle.std.proofs.Common.{◌≡◌, map}
use Rattle.std.specs.List.{range_with_len}
use Rattle.bw_questions.specs.OtherLimits.{raised_limit}
use Rattle.bw_questions.proofs.other_limits.raise.raised_limits.Given as goal

abbrev pub invariant-loop-h : goal.invariant-loop-h
invariant-loop-h l = record {
  done : l.raised.items
      ≡ map (raised_limit l.instance l.limits l.only l.level) (range_with_len 0 l.h);
}
