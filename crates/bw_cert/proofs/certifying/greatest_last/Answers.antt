-- The goals of `greatest_last` that are answered by hand.
use Rattle.std.proofs.Common.{◌≡◌, ◌<◌, ◌≤◌, ◌+◌, ℕ, List, length, get_or, ap, sym, ◌∙◌, arith}
use Rattle.std.specs.Prelude.{map, slice_index}
use Rattle.std.proofs.lemmas.List.{length-map}
use Rattle.bw_model.specs.declared.limits.TheConstants.{MAX_GROUPS}
use Rattle.bw_model.specs.Groups.{children_of, weight_of}
use Rattle.bw_model.specs.Marks.{last_mark}
use Rattle.bw_model.specs.Plan.{child_weights}
use Rattle.bw_model.proofs.CallerLemmas.{child_at, get_or-map}
use Rattle.bw_plan.proofs.CallerLemmas.{few_children, weights_in_range}
use Rattle.bw_cert.proofs.GreatestMark.{greatest_kept, greatest_more, greatest_all, none_all}
use Rattle.bw_cert.proofs.certifying.greatest_last.Goals as goal
use Rattle.bw_cert.proofs.certifying.greatest_last.Goals.{then-amount-gt0, else-amount-gt0}

pub bounds-amounts-child : goal.bounds-amounts-child
bounds-amounts-child c =
    let rows = c.args.instance.now.rows in
    let all = ap (length {A = ℕ}) c.children-child-items.ensures in
    let within : get_or (children_of rows c.args.g) c.loop-place.place 0 < length rows =
    (child_at rows c.args.g c.loop-place.place
    (omega (arith, c.loop-place-test.true, all))).within in
    rw c.children-child-items.ensures (omega (arith, within, c.requires.amount_each))

pub overflow_cast-place : goal.overflow_cast-place
overflow_cast-place c =
    let rows = c.args.instance.now.rows in
    let all = ap (length {A = ℕ}) c.children-child-items.ensures in
    let fewer : length (children_of rows c.args.g) < length rows =
    few_children rows c.args.g c.rows-rows.ensures.valid.tree in
    let few : length rows ≤ MAX_GROUPS = c.rows-rows.ensures.valid.few in
    omega (arith, c.loop-place-test.true, all, fewer, few)

pub loop-place-preserved : goal.loop-place-preserved
loop-place-preserved c =
    let rows = c.args.instance.now.rows in
    let amounts = c.args.amounts.now in
    let ws = child_weights c.args.instance.now.rows c.args.g in
    let parts = map (slice_index c.args.amounts.now) (children_of c.args.instance.now.rows c.args.g)
    in
    let i = c.loop-place.place in
    let inside : c.loop-place.place < length (children_of rows c.args.g) =
    omega (arith, c.loop-place-test.true, ap (length {A = ℕ}) c.children-child-items.ensures) in
    let child_is = ap (λ (xs : List ℕ). get_or xs c.loop-place.place 0)
    c.children-child-items.ensures in
    let amount_is = ap (λ (k : ℕ). get_or c.args.amounts.now k 0) child_is
    ∙ sym (get_or-map (slice_index c.args.amounts.now) (children_of rows c.args.g)
    c.loop-place.place inside) in
    let weighed : (k : ℕ) → k < c.loop-place.place + 1
    → 0 < get_or (child_weights rows c.args.g) k 0 =
    λ k below. let w = weights_in_range c.args.instance.now c.rows-rows.ensures.valid c.args.g k
    (omega (arith, below, inside, length-map (children_of rows c.args.g) (weight_of rows))) in
    omega (arith, w.0) in
    elim c.if-amount-gt0.branch [
      | then-amount-gt0 w ↦
          let weight_is = w.weight.ensures.value ∙ ap (weight_of rows) child_is
          ∙ sym (get_or-map (weight_of rows) (children_of rows c.args.g) c.loop-place.place inside)
          in
          let mark_is = w.last_mark-mark.ensures
          ∙ ap (λ (n : ℕ). last_mark n w.weight.result c.loop-place.place) amount_is
          ∙ ap (λ (n : ℕ). last_mark (get_or parts c.loop-place.place 0) n c.loop-place.place)
          weight_is in
          rw w.level-is (greatest_more ws parts c.loop-place.place weighed
          (omega (arith, w.if-amount-gt0.true, amount_is)) w.last_mark-mark.result mark_is
          c.loop-place.level w.greater.result c.loop-place.invariant w.greater.ensures.none
          w.greater.ensures.some)
      | else-amount-gt0 w ↦
          rw w.level-is (greatest_kept ws parts c.loop-place.place c.loop-place.level
          c.loop-place.invariant (omega (arith, w.if-amount-gt0.false, amount_is)))
    ]

pub returns : goal.returns
returns c =
    let rows = c.args.instance.now.rows in
    let cs = children_of rows c.args.g in
    let parts = map (slice_index c.args.amounts.now) (children_of rows c.args.g) in
    let all : c.loop-place.place ≡ length (map (slice_index c.args.amounts.now)
    (children_of rows c.args.g)) =
    omega (
      arith,
      c.loop-place-test.false,
      c.loop-place.auto.place-end,
      ap (length {A = ℕ}) c.children-child-items.ensures,
      length-map (children_of rows c.args.g) (slice_index c.args.amounts.now),
    ) in
    record {
      greatest = greatest_all (child_weights rows c.args.g) parts c.loop-place.place
          c.loop-place.level all c.loop-place.invariant;
      none = none_all (child_weights rows c.args.g) parts c.loop-place.place c.loop-place.level all
          c.loop-place.invariant;
    }
