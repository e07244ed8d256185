-- What stands at each turn of the loop in `next_of`.
use Rattle.bw_owned.specs.LetGo.{IsNextOf}
use Rattle.bw_owned.proofs.release.next_of.Given as goal

abbrev pub invariant-loop-k : goal.invariant-loop-k
invariant-loop-k l = record {
  next : IsNextOf l.least l.counts l.slices l.go l.k l.found;
}
