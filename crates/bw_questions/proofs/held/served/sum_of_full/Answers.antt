-- The goal of `sum_of_full` that is answered by hand.
use Rattle.std.proofs.Common.{ℕ, ◌+◌, ap, sym, ◌∙◌, arith, map}
use Rattle.std.specs.Prelude.{sum}
use Rattle.std.specs.List.{range_with_len}
use Rattle.std.proofs.lemmas.List.FromFn.{sum_by-map-range_with_len_more}
use Rattle.bw_questions.specs.Served.{full_amount}
use Rattle.bw_questions.proofs.held.served.sum_of_full.Goals as goal

pub loop-g-preserved : goal.loop-g-preserved
loop-g-preserved c =
    let f : ℕ → ℕ =
    full_amount c.args.reading.now.rows c.args.floors.now c.args.planned.now
    c.args.amounts.now in
    let g = c.loop-g.g in
    record {
      done = ap (λ (n : ℕ). n + c.full_amount-sum.result) c.loop-g.invariant.done
          ∙ ap (λ (n : ℕ). sum (map f (range_with_len 0 g)) + n) c.full_amount-sum.ensures.amount
          ∙ sym (sum_by-map-range_with_len_more (λ (n : ℕ). n) f 0 g g (omega arith));
      small = omega (arith, c.loop-g.invariant.small, c.full_amount-sum.ensures.small);
    }
