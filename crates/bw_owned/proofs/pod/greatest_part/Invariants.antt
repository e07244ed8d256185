-- What stands at each turn of the loop in `greatest_part`.
use Rattle.std.proofs.Common.{ℕ, ◌-◌, ◌^◌, ◌<◌, ◌≤◌}
use Rattle.std.specs.Prelude.{slice_set}
use Rattle.bw_owned.specs.Pods.{IsPodAmount, NeedsMore}
use Rattle.bw_owned.proofs.pod.greatest_part.Given as goal

abbrev pub invariant-loop-low : goal.invariant-loop-low
invariant-loop-low l = record {
  order : l.low ≤ l.high;
  range : l.high < 2 ^ 64;
  fits : (amount : ℕ) × IsPodAmount l.kinds (slice_set l.amounts l.part l.low) amount
      × (amount ≤ l.room);
  greatest : (more : ℕ) → l.high < more → more < 2 ^ 64
      → NeedsMore l.kinds l.amounts l.part l.room more;
}

abbrev pub decreases-loop-low : goal.decreases-loop-low
decreases-loop-low l = l.high - l.low
