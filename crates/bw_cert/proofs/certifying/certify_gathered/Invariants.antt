-- What stands at each turn of the loop in `certify_gathered`.
use Rattle.std.proofs.Common.{◌≡◌, ◌<◌, ℕ, None, length, get_or}
use Rattle.bw_cert.specs.Levels.{IsLevelAt}
use Rattle.bw_cert.proofs.certifying.certify_gathered.Given as goal

abbrev pub invariant-loop-g : goal.invariant-loop-g
invariant-loop-g l = record {
  long : length l.levels.items ≡ l.g;
  each : (h : ℕ) → h < l.g → IsLevelAt l.instance l.amounts h (get_or l.levels.items h None);
}
