-- What stands at each turn of the loop in `tops_of`.
use Rattle.std.proofs.Common.{◌≡◌, ℕ, ◌<◌, length, get_or}
use Rattle.bw_questions.specs.FromRoot.{top_of}
use Rattle.bw_questions.proofs.from_root.tops.tops_of.Given as goal

abbrev pub invariant-loop-g : goal.invariant-loop-g
invariant-loop-g l = record {
  one_each : length l.tops.items ≡ length l.instance.rows;
  each : (h : ℕ) → h < l.g → get_or l.tops.items h 0 ≡ top_of l.instance.rows l.may h;
}
