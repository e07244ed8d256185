-- The goals of `logarithmic_weight` that are answered by hand.
use Rattle.std.proofs.Common.{ℕ, rules, arith, Option, Some, None}
use Rattle.std.specs.Prelude.{IfSome}
use Rattle.bw_owned.specs.Shares.{IsLeastAbove, IsLogarithmicWeight, least, default, greatest}
use Rattle.bw_owned.specs.Shares.{between}
use Rattle.bw_owned.proofs.shares.logarithmic_weight.Goals as goal

pub returns-then-shares-le-MIN_SHARES-clause-weight :
    goal.returns-then-shares-le-MIN_SHARES-clause-weight
returns-then-shares-le-MIN_SHARES-clause-weight c = least c.args.shares (omega arith)

pub returns-then-shares-ge-MAX_SHARES-clause-weight :
    goal.returns-then-shares-ge-MAX_SHARES-clause-weight
returns-then-shares-ge-MAX_SHARES-clause-weight c = greatest c.args.shares (omega arith)

pub returns-then-shares-eq-DEFAULT_SHARES-clause-weight :
    goal.returns-then-shares-eq-DEFAULT_SHARES-clause-weight
returns-then-shares-eq-DEFAULT_SHARES-clause-weight c = default c.args.shares (search rules)

on_curve : (shares : ℕ) (found : Option ℕ) → IfSome found (IsLeastAbove shares)
    → IfSome found (IsLogarithmicWeight shares)
on_curve shares None held = held
on_curve shares (Some weight) held = between shares weight held

pub returns-clause-weight : goal.returns-clause-weight
returns-clause-weight c =
    on_curve c.args.shares c.weight_between.result c.weight_between.ensures.weight
