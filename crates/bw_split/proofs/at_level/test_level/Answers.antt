-- The goals of `test_level` that are answered by hand.
use Rattle.std.proofs.Common.{◌≡◌, length, arith, ap, sym, ◌∙◌}
use Rattle.bw_model.proofs.CallerLemmas.{sum_below}
use Rattle.bw_split.proofs.Takes.{each_takes, by_all-is}
use Rattle.bw_split.proofs.at_level.test_level.Goals as goal

pub returns-clause-all : goal.returns-clause-all
returns-clause-all c =
    let all : c.loop-i.i ≡ length c.args.weights.now = omega arith in
    c.from.ensures ∙ c.loop-i.invariant.total_is
    ∙ ap (λ n. sum_below n (each_takes c.args.level c.args.weights.now c.args.most.now)) all
    ∙ sym (by_all-is c.args.level c.args.weights.now c.args.most.now)
