-- The goals of `no_tallies` that are answered by hand.
use Rattle.std.proofs.Common.{rules, ℕ}
use Rattle.bw_columns.specs.Tallies.{none}
use Rattle.bw_columns.proofs.Turns.{map_more}
use Rattle.bw_columns.proofs.tally.no_tallies.Goals as goal

pub loop-g-preserved : goal.loop-g-preserved
loop-g-preserved c =
    search (map_more (λ (_ : ℕ). none) c.loop-g.g, rules)
