-- What stands at each turn of the loop in `floors_of`.
use Rattle.std.proofs.Common.{◌≡◌, ℕ, ◌<◌, length, get_or}
use Rattle.bw_questions.specs.FromRoot.{floor_of}
use Rattle.bw_questions.proofs.from_root.lightened.floors_of.Given as goal

abbrev pub invariant-loop-g : goal.invariant-loop-g
invariant-loop-g l = record {
  one_each : length l.floors.items ≡ length l.instance.rows;
  each : (h : ℕ) → h < l.g → get_or l.floors.items h 0 ≡ floor_of l.instance.rows l.may h;
}
