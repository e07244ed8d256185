-- What stands at each turn of the loop in `weighed`.
use Rattle.std.proofs.Common.{◌≡◌, map}
use Rattle.std.specs.List.{range_with_len}
use Rattle.bw_questions.specs.FromRoot.{weighed_row}
use Rattle.bw_questions.proofs.from_root.weighed.weighed.Given as goal

abbrev pub invariant-loop-g : goal.invariant-loop-g
invariant-loop-g l = record {
  done : l.rows.items ≡ map (weighed_row l.instance.rows l.weights) (range_with_len 0 l.g);
}
