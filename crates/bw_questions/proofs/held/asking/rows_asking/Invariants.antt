-- What stands at each turn of the loop in `rows_asking`.
use Rattle.std.proofs.Common.{◌≡◌, map}
use Rattle.std.specs.List.{range_with_len}
use Rattle.bw_questions.specs.HeldRule.{demand_where, row_asking, is_hungry}
use Rattle.bw_questions.proofs.held.asking.rows_asking.Given as goal

abbrev pub invariant-loop-g : goal.invariant-loop-g
invariant-loop-g l = record {
  done : l.rows.items ≡ map
      (row_asking l.reading.rows (λ g. demand_where l.reading.rows (is_hungry l.hungry g) g))
      (range_with_len 0 l.g);
}
