-- What stands at each turn of the loop in `limits_of`.
use Rattle.std.proofs.Common.{◌≡◌, map}
use Rattle.std.specs.List.{range_with_len}
use Rattle.bw_questions.specs.HeldRule.{round_limit}
use Rattle.bw_questions.proofs.held.limits.limits_of.Given as goal

abbrev pub invariant-loop-g : goal.invariant-loop-g
invariant-loop-g l = record {
  done : l.limits.items ≡ map (round_limit l.reading l.calm l.hungry l.floors l.amounts)
      (range_with_len 0 l.g);
}
