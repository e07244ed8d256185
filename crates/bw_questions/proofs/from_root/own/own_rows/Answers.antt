-- The goal of `own_rows` that is answered by hand.
use Rattle.std.proofs.Common.{◌≡◌, ◌∙◌, ◌<◌, ◌++◌, ◌∷◌, [], List, Bool, ap, sym, arith, length}
use Rattle.std.proofs.Common.{false, get_or}
use Rattle.std.specs.Prelude.{◌&&◌}
use Rattle.std.proofs.lemmas.List.FromFn.{map-range_with_len_more}
use Rattle.bw_model.specs.declared.row.Row.{Row}
use Rattle.bw_questions.specs.Lowered.{has_goal, is_own}
use Rattle.bw_questions.proofs.from_root.own.own_rows.Goals as goal

pub loop-h-preserved : goal.loop-h-preserved
loop-h-preserved c =
    let rows = c.args.instance.now.rows in
    let own = is_own rows c.args.goals.now c.args.may.now in
    let below : c.loop-h.h < length rows =
    omega (arith, c.loop-h-test.true, ap (length {A = Row}) c.rows-count.ensures.rows) in
    let flag : get_or c.as_slice.result.now c.loop-h.h false
    ≡ has_goal rows c.args.goals.now c.loop-h.h =
    ap (λ (xs : List Bool). get_or xs c.loop-h.h false) c.as_slice.ensures.value
    ∙ c.in_ok-flags.ensures.each c.loop-h.h below in
    record {
      done = c.in_ok-push.ensures.items
          ∙ ap (λ b. c.loop-h.own.items ++ b ∷ []) (c.is_own.ensures
          ∙ ap (λ (b : Bool). get_or c.args.may.now c.loop-h.h false && b) flag)
          ∙ ap (λ xs. xs ++ own c.loop-h.h ∷ []) c.loop-h.invariant.done
          ∙ sym (map-range_with_len_more own 0 c.loop-h.h c.loop-h.h (omega arith));
    }
