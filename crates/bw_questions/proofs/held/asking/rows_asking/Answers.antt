-- The goal of `rows_asking` that is answered by hand.
use Rattle.std.proofs.Common.{◌≡◌, ◌<◌, ◌++◌, ◌∷◌, [], List, length, ap, sym, ◌∙◌, arith}
use Rattle.std.proofs.lemmas.List.FromFn.{map-range_with_len_more}
use Rattle.bw_model.specs.declared.row.Row.{Row}
use Rattle.bw_questions.specs.HeldRule.{demand_where, row_asking, is_hungry}
use Rattle.bw_questions.proofs.AskingRows.{row_read}
use Rattle.bw_questions.proofs.held.asking.rows_asking.Goals as goal

pub loop-g-preserved : goal.loop-g-preserved
loop-g-preserved c =
    let rows = c.args.reading.now.rows in
    let hungry = c.args.hungry.now in
    let g = c.loop-g.g in
    let below : g < length hungry =
    omega (arith, c.loop-g-test.true, c.requires, ap (length {A = Row}) c.rows-count.ensures.rows) in
    let is : c.row_asking.result
    ≡ row_asking rows (λ h. demand_where rows (is_hungry hungry h) h) g =
    c.row_asking.ensures ∙ row_read rows hungry g _ below in
    record {
      done = c.in_ok-push.ensures.items
          ∙ ap (λ (row : Row). c.loop-g.rows.items ++ row ∷ []) is
          ∙ ap (λ (xs : List Row).
          xs ++ row_asking rows (λ h. demand_where rows (is_hungry hungry h) h) g ∷ [])
          c.loop-g.invariant.done
          ∙ sym (map-range_with_len_more
          (row_asking rows (λ h. demand_where rows (is_hungry hungry h) h)) 0 g g (omega arith));
    }
