-- What stands at each turn of the loop in `pass_once`: where none has changed, each number before a
-- goal's is the least beside the others.
use Rattle.std.proofs.Common.{◌≡◌, ℕ, ◌<◌, true, length}
use Rattle.bw_settings.specs.Following.{follows_of}
use Rattle.bw_settings.specs.Several.{aims_of, IsLeastBeside}
use Rattle.bw_settings.proofs.pass.pass_once.Given as goal

abbrev pub invariant-loop-k : goal.invariant-loop-k
invariant-loop-k l = record {
  as_many : length l.numbers ≡ length l.goals.owners.now;
  so_far : l.same ≡ true → (j : ℕ) → j < l.k
      → IsLeastBeside l.instance (follows_of l.following) (aims_of l.goals) l.numbers j;
}
