-- The goal of `sum_of` that is answered by hand.
use Rattle.std.proofs.Common.{◌≡◌, length, get_or, arith, ap, sym, ◌∙◌}
use Rattle.bw_model.proofs.CallerLemmas.{sum_below, sum-is}
use Rattle.bw_owned.proofs.judged.sum_of.Goals as goal

pub returns : goal.returns
returns c =
    let values = c.args.values.now in
    let all : c.loop-k.k ≡ length values = omega arith in
    c.loop-k.invariant.total_is ∙ ap (λ n. sum_below n (λ k. get_or values k 0)) all
    ∙ sym (sum-is values)
