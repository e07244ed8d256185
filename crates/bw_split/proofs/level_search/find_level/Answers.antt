-- The goals of `find_level` that are answered by hand.
use Rattle.std.proofs.Common.{arith}
use Rattle.bw_split.proofs.Takes.{by_all-zero}
use Rattle.bw_split.proofs.level_search.find_level.Goals as goal

pub returns-then-amount-eq0-clause-rest : goal.returns-then-amount-eq0-clause-rest
returns-then-amount-eq0-clause-rest c =
    omega (arith, c.if-amount-eq0.true, by_all-zero c.args.weights.now c.args.most.now)
