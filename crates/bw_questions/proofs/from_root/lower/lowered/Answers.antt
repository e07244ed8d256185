-- The goals of `lowered` that are answered by hand.
use Rattle.std.proofs.Common.{◌≡◌, ◌∙◌, ◌<◌, ◌++◌, ◌∷◌, [], List, Bool, ap, sym, arith, length, map}
use Rattle.std.proofs.Common.{false, get_or}
use Rattle.std.specs.List.{range_with_len}
use Rattle.std.proofs.lemmas.List.FromFn.{map-range_with_len_more}
use Rattle.bw_model.specs.declared.row.Row.{Row}
use Rattle.bw_questions.specs.Lowered.{has_goal, level_weight}
use Rattle.bw_questions.proofs.LoweredWeights.{are_level_weights, weight_by_flag}
use Rattle.bw_questions.proofs.from_root.lower.lowered.Goals as goal

pub loop-h-preserved : goal.loop-h-preserved
loop-h-preserved c =
    let rows = c.args.instance.now.rows in
    let weight = level_weight rows c.args.goals.now c.args.may.now c.args.level in
    let below : c.loop-h.h < length rows =
    omega (arith, c.loop-h-test.true, ap (length {A = Row}) c.rows-count.ensures.rows) in
    let flag : get_or c.as_slice.result.now c.loop-h.h false
    ≡ has_goal rows c.args.goals.now c.loop-h.h =
    ap (λ (xs : List Bool). get_or xs c.loop-h.h false) c.as_slice.ensures.value
    ∙ c.in_ok-flags.ensures.each c.loop-h.h below in
    record {
      done = c.in_ok-push.ensures.items
          ∙ ap (λ w. c.loop-h.weights.items ++ w ∷ []) (c.level_weight.ensures
          ∙ weight_by_flag rows c.args.goals.now c.args.may.now c.args.level c.loop-h.h _ flag)
          ∙ ap (λ xs. xs ++ weight c.loop-h.h ∷ []) c.loop-h.invariant.done
          ∙ sym (map-range_with_len_more weight 0 c.loop-h.h c.loop-h.h (omega arith));
    }

pub weighed-requires : goal.weighed-requires
weighed-requires c =
    let rows = c.args.instance.now.rows in
    let weight = level_weight rows c.args.goals.now c.args.may.now c.args.level in
    let end : c.loop-h.h ≡ length rows =
    omega (
      arith,
      c.loop-h-test.false,
      c.loop-h.auto.h-end,
      ap (length {A = Row}) c.rows-count.ensures.rows,
    ) in
    rw (c.as_slice-2.ensures.value ∙ c.loop-h.invariant.done
    ∙ ap (λ n. map weight (range_with_len 0 n)) end)
    (are_level_weights c.args.instance.now c.args.goals.now c.args.may.now
    c.rows-count.ensures.valid c.args.level c.requires.level)
