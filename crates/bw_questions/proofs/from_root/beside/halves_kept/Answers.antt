-- The goals of `halves_kept` that are answered by hand.
use Rattle.std.proofs.Common.{◌≡◌, ◌∙◌, ◌<◌, List, ℕ, length, ap, arith, get_or, inl, inr}
use Rattle.std.proofs.Common.{get_or-set_same, get_or-set_other}
use Rattle.std.specs.Prelude.{slice_set}
use Rattle.std.proofs.lemmas.Bool.{cases_eq}
use Rattle.std.proofs.lemmas.List.{length-set}
use Rattle.bw_model.specs.declared.row.Row.{Row}
use Rattle.bw_questions.specs.Beside.{kept_goal}
use Rattle.bw_questions.proofs.from_root.beside.halves_kept.Goals as goal

pub loop-h-preserved : goal.loop-h-preserved
loop-h-preserved c =
    let rows = c.args.instance.now.rows in
    let goals = c.args.goals.now in
    let below : c.loop-h.h < length rows =
    omega (arith, c.loop-h-test.true, ap (length {A = Row}) c.rows-count.ensures.rows) in
    let is : c.kept_goal.result ≡ kept_goal rows goals c.in_ok-had.had.items c.loop-h.h =
    c.kept_goal.ensures
    ∙ ap (λ (xs : List ℕ). kept_goal rows goals xs c.loop-h.h) c.as_slice.ensures.value in
    record {
      one_each = length-set c.loop-h.kept.items c.loop-h.h c.kept_goal.result
          ∙ c.loop-h.invariant.one_each;
      each = λ k k_in. elim (cases_eq k c.loop-h.h) [
        | inl here ↦
            let value : get_or (slice_set c.loop-h.kept.items c.loop-h.h c.kept_goal.result)
            c.loop-h.h 0 ≡ c.kept_goal.result =
            get_or-set_same c.loop-h.kept.items c.loop-h.h c.kept_goal.result 0
            (omega (arith, below, c.loop-h.invariant.one_each)) in
            rw here (value ∙ is)
        | inr apart ↦
            get_or-set_other c.loop-h.kept.items c.loop-h.h k c.kept_goal.result 0 apart
            ∙ c.loop-h.invariant.each k (omega (arith, k_in, apart))
      ];
    }

pub returns : goal.returns
returns c = record {
  had = c.in_ok-had.had.items;
  are_had = c.in_ok-had.ensures;
  one_each = c.loop-h.invariant.one_each;
  each = λ h below.
      c.loop-h.invariant.each h (omega (
        arith,
        below,
        c.loop-h-test.false,
        ap (length {A = Row}) c.rows-count.ensures.rows,
      ));
}
