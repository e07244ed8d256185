-- The goals of `split_with` that are answered by hand.
use Rattle.std.proofs.Common.{◌≡◌, ◌≤◌, arith, rules}
use Rattle.std.specs.Prelude.{sum, IfOk}
use Rattle.std.proofs.lemmas.Result.{IfOk-weaker}
use Rattle.bw_model.specs.Split.{IsBestSplit}
use Rattle.bw_split.proofs.Search.{all-IsBestSplit}
use Rattle.bw_split.proofs.level_search.split_with.Goals as goal

pub returns-then-sum_of-amount-clause-best : goal.returns-then-sum_of-amount-clause-best
returns-then-sum_of-amount-clause-best c =
    let copied : IfOk c.to_vec.result (λ v. v.items ≡ c.args.most.now) = search rules in
    let whole : sum c.args.most.now ≤ c.args.amount =
    omega (arith, c.sum_of.ensures, c.if-sum_of-amount.true) in
    IfOk-weaker c.to_vec.result (λ v. v.items ≡ c.args.most.now)
    (λ parts. IsBestSplit c.args.amount c.args.weights.now c.args.most.now parts.items)
    (λ v is. rw is
    (all-IsBestSplit c.args.amount c.args.weights.now c.args.most.now c.requires.one_each
    (λ k below. (c.requires.weights_in_range k below).0) (omega (arith, whole, c.requires.enough))))
    copied
