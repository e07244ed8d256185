-- What stands at each turn of the loop in `busy_rows`.
use Rattle.std.proofs.Common.{◌≡◌, map}
use Rattle.std.specs.List.{range_with_len}
use Rattle.bw_model.specs.Groups.{is_under}
use Rattle.bw_questions.specs.Busy.{busy_row}
use Rattle.bw_questions.proofs.guaranteed.busy.busy_rows.Given as goal

abbrev pub invariant-loop-g : goal.invariant-loop-g
invariant-loop-g l = record {
  done : l.busy.items ≡ map
      (λ g. busy_row l.instance.rows g (is_under l.instance.rows l.group g))
      (range_with_len 0 l.g);
}
