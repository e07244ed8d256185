-- The goals of `under_flags` that are answered by hand.
use Rattle.std.proofs.Common.{◌++◌, ◌∷◌, [], refl, ap, sym, ◌∙◌, arith}
use Rattle.std.proofs.lemmas.List.FromFn.{map-range_with_len_more}
use Rattle.bw_model.specs.Groups.{is_under}
use Rattle.bw_model.proofs.CallerLemmas.{parent_at}
use Rattle.bw_questions.proofs.BusyRows.{next_flag}
use Rattle.bw_questions.proofs.guaranteed.busy.under_flags.Goals as goal

pub loop-g-preserved : goal.loop-g-preserved
loop-g-preserved c =
    let rows = c.args.rows.now in
    let flags = c.loop-g.flags.items in
    let up = parent_at rows c.loop-g.g _ _ c.loop-g-test.true refl in
    let is = (rw c.as_slice.ensures.value at c.is_flagged-flag.ensures)
    ∙ next_flag rows c.requires c.args.group c.loop-g.g flags c.loop-g.invariant.done _ up in
    record {
      done = c.in_ok-push.ensures.items ∙ ap (λ flag. flags ++ flag ∷ []) is
          ∙ ap (λ xs. xs ++ is_under rows c.args.group c.loop-g.g ∷ []) c.loop-g.invariant.done
          ∙ sym (map-range_with_len_more (is_under rows c.args.group) 0 c.loop-g.g c.loop-g.g
          (omega arith));
    }
