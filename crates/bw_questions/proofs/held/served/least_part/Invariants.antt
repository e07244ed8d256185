-- What stands at each turn of the loop in `least_part`: the least part of the groups so far.
use Rattle.std.proofs.Common.{get_or}
use Rattle.std.specs.Option.{option_map}
use Rattle.bw_questions.specs.HeldRule.{own_limit}
use Rattle.bw_questions.specs.Served.{part_of}
use Rattle.bw_questions.proofs.Parts.{IsLeastOf}
use Rattle.bw_questions.proofs.held.served.least_part.Given as goal

abbrev pub invariant-loop-k : goal.invariant-loop-k
invariant-loop-k l = record {
  least : IsLeastOf (λ k. option_map
      (λ limit. part_of l.calm limit (get_or l.planned (get_or l.groups k 0) 0) l.amount l.held)
      (own_limit l.reading.rows (get_or l.groups k 0))) l.k l.found;
}
