-- The goals of `weighed` that are answered by hand.
use Rattle.std.proofs.Common.{◌∙◌, ◌≡◌, ◌++◌, ◌∷◌, [], ap, sym, arith, length, map}
use Rattle.std.specs.List.{range_with_len}
use Rattle.std.proofs.lemmas.List.FromFn.{map-range_with_len_more}
use Rattle.bw_questions.specs.FromRoot.{weighed_row}
use Rattle.bw_questions.proofs.Weighed.{weighed-IsInstance}
use Rattle.bw_questions.proofs.from_root.weighed.weighed.Goals as goal

pub loop-g-preserved : goal.loop-g-preserved
loop-g-preserved c =
    let row = weighed_row c.args.instance.now.rows c.args.weights.now in
    record {
      done = c.in_ok-push.ensures.items
          ∙ ap (λ r. c.loop-g.rows.items ++ r ∷ []) c.row_with.ensures
          ∙ ap (λ xs. xs ++ row c.loop-g.g ∷ []) c.loop-g.invariant.done
          ∙ sym (map-range_with_len_more row 0 c.loop-g.g c.loop-g.g (omega arith));
    }

pub of_valid-requires : goal.of_valid-requires
of_valid-requires c =
    let end : c.loop-g.g ≡ length c.args.instance.now.rows =
    omega (
      arith,
      c.loop-g-test.false,
      c.loop-g.auto.g-end,
      ap length c.rows-count.ensures.rows,
    ) in
    rw (
      c.shape.ensures,
      c.loop-g.invariant.done
          ∙ ap (λ n. map (weighed_row c.args.instance.now.rows c.args.weights.now)
          (range_with_len 0 n)) end,
    )
    (weighed-IsInstance c.args.instance.now c.args.weights.now c.rows-count.ensures.valid c.requires)
