-- What stands at each turn of the loop in `under_flags`.
use Rattle.std.proofs.Common.{◌≡◌, map}
use Rattle.std.specs.List.{range_with_len}
use Rattle.bw_model.specs.Groups.{is_under}
use Rattle.bw_questions.proofs.guaranteed.busy.under_flags.Given as goal

abbrev pub invariant-loop-g : goal.invariant-loop-g
invariant-loop-g l = record {
  done : l.flags.items ≡ map (is_under l.rows l.group) (range_with_len 0 l.g);
}
