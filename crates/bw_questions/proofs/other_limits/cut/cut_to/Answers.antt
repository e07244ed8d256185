-- The goals of `cut_to` that are answered by hand.
use Rattle.std.proofs.Common.{◌∙◌, ◌≡◌, ◌++◌, ◌∷◌, [], ap, sym, arith, length, map}
use Rattle.std.specs.List.{range_with_len}
use Rattle.std.proofs.lemmas.List.FromFn.{map-range_with_len_more}
use Rattle.bw_questions.specs.OtherLimits.{cut_row}
use Rattle.bw_questions.proofs.CutRows.{cut-IsInstance}
use Rattle.bw_questions.proofs.other_limits.cut.cut_to.Goals as goal

pub loop-h-preserved : goal.loop-h-preserved
loop-h-preserved c =
    let row = cut_row c.args.instance.now c.args.limits.now in
    record {
      done = c.in_ok-push.ensures.items
          ∙ ap (λ r. c.loop-h.rows.items ++ r ∷ []) c.cut_row.ensures
          ∙ ap (λ xs. xs ++ row c.loop-h.h ∷ []) c.loop-h.invariant.done
          ∙ sym (map-range_with_len_more row 0 c.loop-h.h c.loop-h.h (omega arith));
    }

pub of_valid-requires : goal.of_valid-requires
of_valid-requires c =
    let end : c.loop-h.h ≡ length c.args.instance.now.rows =
    omega (
      arith,
      c.loop-h-test.false,
      c.loop-h.auto.h-end,
      ap length c.rows-count.ensures.rows,
    ) in
    rw (
      c.shape.ensures,
      c.loop-h.invariant.done
          ∙ ap (λ n. map (cut_row c.args.instance.now c.args.limits.now) (range_with_len 0 n)) end,
    )
    (cut-IsInstance c.args.instance.now c.args.limits.now c.rows-count.ensures.valid
    c.requires.root)
