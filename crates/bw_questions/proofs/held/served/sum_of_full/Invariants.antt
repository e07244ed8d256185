-- What stands at each turn of the loop in `sum_of_full`.
use Rattle.std.proofs.Common.{◌≡◌, ◌≤◌, ◌*◌, map}
use Rattle.std.specs.Prelude.{sum}
use Rattle.std.specs.List.{range_with_len}
use Rattle.bw_model.specs.declared.limits.TheConstants.{MAX_CAPACITY}
use Rattle.bw_questions.specs.Served.{full_amount}
use Rattle.bw_questions.proofs.held.served.sum_of_full.Given as goal

abbrev pub invariant-loop-g : goal.invariant-loop-g
invariant-loop-g l = record {
  done : l.sum ≡ sum (map (full_amount l.reading.rows l.floors l.planned l.amounts)
      (range_with_len 0 l.g));
  small : l.sum ≤ l.g * MAX_CAPACITY;
}
