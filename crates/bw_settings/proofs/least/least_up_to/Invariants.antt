-- What stands at each turn of the loop in `least_up_to`: `high` is enough, and none below `low` is.
use Rattle.std.proofs.Common.{ℕ, ◌-◌, ◌<◌, ◌≤◌}
use Rattle.bw_settings.specs.Following.{follows_of}
use Rattle.bw_settings.specs.Settings.{GivesAt}
use Rattle.bw_settings.proofs.least.least_up_to.Given as goal

abbrev pub invariant-loop-low : goal.invariant-loop-low
invariant-loop-low l = record {
  first : l.first ≤ l.low;
  order : l.low ≤ l.high;
  last : l.high ≤ l.last;
  enough : GivesAt l.measure l.instance (follows_of l.following) l.group l.amount l.high;
  short : (lesser : ℕ) → l.first ≤ lesser → lesser < l.low
      → GivesAt l.measure l.instance (follows_of l.following) l.group l.amount lesser → ⊥;
}

abbrev pub decreases-loop-low : goal.decreases-loop-low
decreases-loop-low l = l.high - l.low
