-- The goal of `base_with` that is answered by hand.
use Rattle.std.proofs.Common.{◌≡◌, ℕ, ◌+◌, ◌-◌, ◌^◌, length, ap, sym, ◌∙◌, arith}
use Rattle.std.specs.Prelude.{min}
use Rattle.bw_model.proofs.CallerLemmas.{sum_by-range, sum_below}
use Rattle.bw_settings.specs.Several.{aims_of, part_in}
use Rattle.bw_settings.proofs.columns.base_with.Goals as goal

pub returns : goal.returns
returns c =
    let part : ℕ → ℕ =
    part_in c.args.instance.now.rows (aims_of c.args.goals.now) c.args.numbers.now c.args.h in
    let at_end : c.loop-k.k ≡ length c.args.goals.now.owners.now =
    omega (arith, c.loop-k-test.false, c.loop-k.auto.k-end) in
    c.loop-k.invariant.so_far
    ∙ ap (λ (s : ℕ). min (c.args.base + s) (2 ^ 64 - 1))
    (ap (λ (n : ℕ). sum_below n part) at_end
    ∙ sym (sum_by-range part (length c.args.goals.now.owners.now)))
