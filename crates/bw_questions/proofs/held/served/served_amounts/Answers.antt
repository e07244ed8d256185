-- The goal of `served_amounts` that is answered by hand.
use Rattle.std.proofs.Common.{◌≡◌, ℕ, ◌++◌, ◌∷◌, [], List, ap, sym, ◌∙◌, arith}
use Rattle.std.proofs.lemmas.List.FromFn.{map-range_with_len_more}
use Rattle.bw_questions.specs.Served.{amount_in}
use Rattle.bw_questions.proofs.held.served.served_amounts.Goals as goal

pub loop-g-preserved : goal.loop-g-preserved
loop-g-preserved c =
    let g = c.loop-g.g in
    let f : ℕ → ℕ =
    amount_in c.args.reading.now.rows c.args.floors.now c.args.planned.now in
    let value : c.served_amount.result ≡ f g =
    rw (c.sum_of_full-theirs.ensures.sum, c.sum_of_full-given.ensures.sum)
    at c.served_amount.ensures in
    record {
      done = c.in_ok-push.ensures.items
          ∙ ap (λ (n : ℕ). c.loop-g.amounts.items ++ n ∷ []) value
          ∙ ap (λ (xs : List ℕ). xs ++ f g ∷ []) c.loop-g.invariant.done
          ∙ sym (map-range_with_len_more f 0 g g (omega arith));
    }
