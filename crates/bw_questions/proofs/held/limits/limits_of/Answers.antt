-- The goal of `limits_of` that is answered by hand.
use Rattle.std.proofs.Common.{◌≡◌, ◌<◌, ◌++◌, ◌∷◌, [], List, Option, ℕ, length, ap, sym, ◌∙◌, arith}
use Rattle.std.proofs.lemmas.List.FromFn.{map-range_with_len_more}
use Rattle.bw_model.specs.declared.row.Row.{Row}
use Rattle.bw_questions.specs.HeldRule.{round_limit}
use Rattle.bw_questions.proofs.AskingRows.{limit_read}
use Rattle.bw_questions.proofs.held.limits.limits_of.Goals as goal

pub loop-g-preserved : goal.loop-g-preserved
loop-g-preserved c =
    let used = c.args.reading.now in
    let calm = c.args.calm in
    let hungry = c.args.hungry.now in
    let floors = c.args.floors.now in
    let amounts = c.args.amounts.now in
    let g = c.loop-g.g in
    let below : g < length used.rows =
    omega (arith, c.loop-g-test.true, ap (length {A = Row}) c.rows-count.ensures.rows) in
    let is : c.row_limit.result ≡ round_limit used calm hungry floors amounts g =
    c.row_limit.ensures
    ∙ limit_read used calm hungry floors amounts g _ _ _ (omega (arith, below, c.requires.flags))
    (omega (arith, below, c.requires.floors)) (omega (arith, below, c.requires.amounts)) in
    record {
      done = c.in_ok-push.ensures.items
          ∙ ap (λ (limit : Option ℕ). c.loop-g.limits.items ++ limit ∷ []) is
          ∙ ap (λ (xs : List (Option ℕ)). xs ++ round_limit used calm hungry floors amounts g ∷ [])
          c.loop-g.invariant.done
          ∙ sym (map-range_with_len_more (round_limit used calm hungry floors amounts) 0 g g
          (omega arith));
    }
