-- The goals of `counted` that are answered by hand.
use Rattle.std.proofs.Common.{◌≡◌, ◌∙◌}
use Rattle.bw_split.specs.Conditions.{cut_at}
use Rattle.bw_split.proofs.CallerLemmas.{cut-none, cut-CanSplit}
use Rattle.bw_planner_tests.proofs.split_cases.counted.Goals as goal

pub split_counted-requires : goal.split_counted-requires
split_counted-requires c =
    let weights_are : c.as_slice.result.now ≡ c.args.weights.now =
    c.as_slice.ensures.value ∙ c.in_ok-weights.ensures
    ∙ cut-none 10000 c.args.weights.now (λ k below. (c.requires.weights_in_range k below).1) in
    let most_is : c.as_slice-2.result.now ≡ cut_at c.args.amount c.args.most.now =
    c.as_slice-2.ensures.value ∙ c.in_ok-most.ensures in
    rw (weights_are, most_is)
    (cut-CanSplit c.args.amount c.args.weights.now c.args.most.now c.requires)
