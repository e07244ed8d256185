-- What stands at each turn of the loop in `nearest`.
use Rattle.std.proofs.Common.{◌≡◌, ◌-◌, ◌<◌, ◌≤◌, ◌^◌, ◌⊎◌}
use Rattle.bw_model.specs.declared.limits.TheConstants.{MIN_WEIGHT, MAX_WEIGHT}
use Rattle.bw_owned.specs.Logarithm.{IsLogarithmBelow, IsLogarithmWithin}
use Rattle.bw_owned.specs.Shares.{curve, height}
use Rattle.bw_owned.proofs.shares.nearest.Given as goal

abbrev pub invariant-loop-under : goal.invariant-loop-under
invariant-loop-under l = record {
  under_least : 1 ≤ l.under;
  apart : l.under < l.above;
  above_most : l.above ≤ MAX_WEIGHT;
  least_bound : l.least < 2 ^ 41;
  least_below : IsLogarithmBelow l.least l.above;
  least_close : IsLogarithmWithin l.least l.above;
  on : (l.above ≡ MAX_WEIGHT) ⊎ (curve l.ten l.shares ≤ height l.ten l.least);
  before_close : IsLogarithmWithin l.before l.under;
  under : (l.under ≡ MIN_WEIGHT) ⊎ (height l.ten l.before < curve l.ten l.shares);
}

abbrev pub decreases-loop-under : goal.decreases-loop-under
decreases-loop-under l = l.above - l.under
