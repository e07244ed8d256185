-- The goal of `lowest_limits` that is answered by hand.
use Rattle.std.proofs.Common.{◌∙◌, ◌++◌, ◌∷◌, [], ap, sym, arith}
use Rattle.std.proofs.lemmas.List.FromFn.{map-range_with_len_more}
use Rattle.bw_questions.specs.OtherLimits.{limit_at}
use Rattle.bw_questions.proofs.other_limits.free.lowest_limits.Goals as goal

pub loop-h-preserved : goal.loop-h-preserved
loop-h-preserved c =
    let limit = limit_at c.args.instance.now c.args.goals.now c.args.lowest.now 0 in
    record {
      done = c.in_ok-push.ensures.items
          ∙ ap (λ l. c.loop-h.limits.items ++ l ∷ []) c.lowest_limit.ensures
          ∙ ap (λ xs. xs ++ limit c.loop-h.h ∷ []) c.loop-h.invariant.done
          ∙ sym (map-range_with_len_more limit 0 c.loop-h.h c.loop-h.h (omega arith));
    }
