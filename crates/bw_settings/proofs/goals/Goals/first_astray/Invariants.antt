-- What stands at each turn of the loop in `first_astray`: each goal before it is on its way.
use Rattle.std.proofs.Common.{ℕ, ◌<◌}
use Rattle.std.specs.Prelude.{slice_index}
use Rattle.bw_settings.specs.Several.{IsOnWay}
use Rattle.bw_settings.proofs.goals.Goals.first_astray.Given as goal

abbrev pub invariant-loop-k : goal.invariant-loop-k
invariant-loop-k l = record {
  so_far : (j : ℕ) → j < l.k → IsOnWay l.instance.rows (slice_index l.self.groups.now j)
      (slice_index l.self.owners.now j);
}
