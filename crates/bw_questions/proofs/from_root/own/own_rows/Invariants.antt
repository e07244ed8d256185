-- What stands at each turn of the loop in `own_rows`.
use Rattle.std.proofs.Common.{◌≡◌, map}
use Rattle.std.specs.List.{range_with_len}
use Rattle.bw_questions.specs.Lowered.{is_own}
use Rattle.bw_questions.proofs.from_root.own.own_rows.Given as goal

abbrev pub invariant-loop-h : goal.invariant-loop-h
invariant-loop-h l = record {
  done : l.own.items ≡ map (is_own l.instance.rows l.goals l.may) (range_with_len 0 l.h);
}
