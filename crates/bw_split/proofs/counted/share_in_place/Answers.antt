-- The goals of `share_in_place` that are answered by hand.
use Rattle.std.proofs.Common.{arith}
use Rattle.bw_split.proofs.Search.{all-IsBestSplit}
use Rattle.bw_split.proofs.counted.share_in_place.Goals as goal

pub returns-then-sum_of-amount : goal.returns-then-sum_of-amount
returns-then-sum_of-amount c =
    all-IsBestSplit c.args.amount c.args.weights.now c.args.most.now c.requires.one_each
    (λ k below. (c.requires.weights_in_range k below).0)
    (omega (arith, c.sum_of.ensures, c.if-sum_of-amount.true, c.requires.enough))
