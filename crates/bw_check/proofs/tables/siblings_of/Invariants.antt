-- What stands at each turn of the loop in `siblings_of`.
use Rattle.std.proofs.Common.{◌≡◌, ◌+◌}
use Rattle.bw_check.specs.Counts.{AreGathered, ArePlaces}
use Rattle.bw_check.proofs.tables.siblings_of.Given as goal

abbrev pub invariant-loop-c : goal.invariant-loop-c
invariant-loop-c l = record {
  placed : ArePlaces l.rows l.c l.places.items;
  counted : AreGathered l.rows (λ _. 1) l.c l.children.items;
  visited : l.visits.steps ≡ l.fn.visits.steps + l.c;
}
