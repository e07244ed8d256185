-- The goals of `upper_level` that are answered by hand.
use Rattle.std.proofs.Common.{◌<◌, ◌≤◌, ℕ, get_or, arith}
use Rattle.std.specs.Prelude.{min}
use Rattle.bw_split.specs.Levels.{taken}
use Rattle.bw_split.proofs.Takes.{by_all-enough}
use Rattle.bw_split.proofs.Search.{upper_reaches}
use Rattle.bw_split.proofs.level_search.upper_level.Goals as goal
use Rattle.bw_split.specs.declared.limits.TheConstants.{GREATEST_LEVEL}

-- what the level of the greatest part at the least weight reaches
reaches : (c : goal.After-saturating_sub-2) → (c.div_ceil-level.result ≤ GREATEST_LEVEL)
    × ((weight most x : ℕ) → c.loop-i.least ≤ weight → x ≤ c.min.result → x ≤ most
    → x ≤ taken c.div_ceil-level.result weight most)
reaches c = upper_reaches c.min.result c.loop-i.least c.div_ceil-level.result
    c.loop-i.invariant.positive (omega (arith, c.min.ensures, c.requires.can.small))
    (rw (c.saturating_sub.ensures, c.from-2.ensures) at c.div_ceil-level.ensures)

pub returns-clause-in_range : goal.returns-clause-in_range
returns-clause-in_range c = (reaches c).0

pub returns-clause-enough : goal.returns-clause-enough
returns-clause-enough c =
    by_all-enough c.args.amount c.div_ceil-level.result c.args.weights.now c.args.most.now
    c.requires.can.one_each (λ k below.
    let seen : k < c.loop-i.i = omega (arith, below, c.loop-i-test.false) in
    (reaches c).1 (get_or c.args.weights.now k 0) (get_or c.args.most.now k 0)
    (min c.args.amount (get_or c.args.most.now k 0)) (c.loop-i.invariant.lightest k seen)
    (omega (arith, c.loop-i.invariant.widest k seen, c.min.ensures, c.from.ensures)) (omega arith))
    c.requires.can.enough
