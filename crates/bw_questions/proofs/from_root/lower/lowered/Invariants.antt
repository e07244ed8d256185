-- What stands at each turn of the loop in `lowered`.
use Rattle.std.proofs.Common.{◌≡◌, map}
use Rattle.std.specs.List.{range_with_len}
use Rattle.bw_questions.specs.Lowered.{level_weight}
use Rattle.bw_questions.proofs.from_root.lower.lowered.Given as goal

abbrev pub invariant-loop-h : goal.invariant-loop-h
invariant-loop-h l = record {
  done : l.weights.items
      ≡ map (level_weight l.instance.rows l.goals l.may l.level) (range_with_len 0 l.h);
}
