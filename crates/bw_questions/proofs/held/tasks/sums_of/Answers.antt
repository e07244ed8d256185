-- The goal of `sums_of` that is answered by hand.
use Rattle.std.proofs.Common.{◌≡◌, length, get_or, arith, refl, ap, sym, ◌∙◌}
use Rattle.std.specs.Prelude.{sum}
use Rattle.bw_model.proofs.CallerLemmas.{sum_below, sum-is}
use Rattle.bw_questions.specs.Hunger.{by_all, could_run, starved_one, sums_of}
use Rattle.bw_questions.proofs.ByAll.{each_task, by_all-is}
use Rattle.bw_questions.proofs.held.tasks.sums_of.Goals as goal

pub returns-clause-sums : goal.returns-clause-sums
unfolding sums_of
returns-clause-sums c =
    let passed = c.args.passed in
    let ran = c.args.ran.now in
    let waited = c.args.waited.now in
    let inv = c.loop-k.invariant in
    let all : c.loop-k.k ≡ length ran = omega arith in
    let total : c.loop-k.total ≡ sum ran =
    inv.total_is ∙ ap (λ n. sum_below n (λ k. get_or ran k 0)) all ∙ sym (sum-is ran) in
    let most : c.loop-k.most ≡ by_all (could_run passed) ran waited =
    inv.most_is ∙ ap (λ n. sum_below n (each_task (could_run passed) ran waited)) all
    ∙ sym (by_all-is (could_run passed) ran waited) in
    let starved : c.loop-k.starved ≡ by_all (starved_one passed) ran waited =
    inv.starved_is ∙ ap (λ n. sum_below n (each_task (starved_one passed) ran waited)) all
    ∙ sym (by_all-is (starved_one passed) ran waited) in
    rw (total, most, starved) refl
