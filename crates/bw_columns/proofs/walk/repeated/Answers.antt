-- The goals of `repeated` that are answered by hand.
use Rattle.std.proofs.Common.{◌≡◌, ℕ, ◌+◌, ◌-◌, ◌*◌, ◌/◌, ◌%◌, List, ◌++◌, length, ap, sym, ◌∙◌}
use Rattle.std.proofs.Common.{arith, subst}
use Rattle.std.proofs.Math.Nat.{div-add-mod}
use Rattle.std.proofs.lemmas.List.{length-append}
use Rattle.bw_columns.specs.Periods.{Period, AreSuccessive}
use Rattle.bw_columns.proofs.PeriodSums.{again, length-again, added_again, successive-append}
use Rattle.bw_columns.proofs.PeriodSums.{successive-again}
use Rattle.bw_columns.proofs.walk.repeated.Goals as goal

-- steps that come again as often as the rest has room for them
counted : (done turn : List Period) (left marked times : ℕ) → length done + left ≡ times
    → length turn + left ≡ marked
    → length (done ++ again turn (left / (marked - left))) + left % (marked - left) ≡ times
counted done turn left marked times count turned =
    let steps : length turn ≡ marked - left = omega (arith, turned) in
    let whole : length (again turn (left / (marked - left)))
    ≡ (marked - left) * (left / (marked - left)) =
    length-again turn (left / (marked - left))
    ∙ ap (λ (n : ℕ). n * (left / (marked - left))) steps in
    let parts : (marked - left) * (left / (marked - left)) + left % (marked - left) ≡ left =
    div-add-mod left (marked - left) in
    let longer : length (done ++ again turn (left / (marked - left)))
    ≡ length done + length (again turn (left / (marked - left))) =
    length-append done (again turn (left / (marked - left))) in
    parted (length done) (length (again turn (left / (marked - left))))
    (length (done ++ again turn (left / (marked - left))))
    ((marked - left) * (left / (marked - left))) (left % (marked - left)) left times longer whole
    parts count
  where
    parted : (d a whole product rest left times : ℕ) → whole ≡ d + a → a ≡ product
        → product + rest ≡ left → d + left ≡ times → whole + rest ≡ times
    parted d a whole product rest left times one two three four =
        omega (arith, one, two, three, four)

since : (turn : List Period) (left marked rest : ℕ) → length turn + left ≡ marked
    → length turn + rest ≡ marked - left + rest
since turn left marked rest turned = omega (arith, turned)

pub returns-clause-way : goal.returns-clause-way
returns-clause-way c = λ shape slice_us asked mosts times begin way.
    let walk = c.args.walk in
    let t : ℕ = walk.left / (walk.mark_left - walk.left) in
    record {
      carries_long = way.carries_long;
      done = way.done ++ again way.turn t;
      count = counted way.done way.turn walk.left walk.mark_left times way.count way.turn_count;
      successive = successive-append shape asked mosts way.done (again way.turn t) begin
          walk.carries.items walk.carries.items way.successive
          (successive-again shape asked mosts way.turn t walk.carries.items
          (subst (λ (b : List ℕ). AreSuccessive shape asked mosts b way.turn walk.carries.items)
          (sym c.requires.same) way.turned));
      sums = added_again slice_us asked way.done way.turn t c.as_slice.result.now
          c.as_slice-2.result.now c.in_ok-added_up.field-0.items c.in_ok-added_up.ensures
          (c.as_slice.ensures.value ∙ way.sums) (c.as_slice-2.ensures.value ∙ way.turn_sums);
      turn = way.turn;
      turn_count = since way.turn walk.left walk.mark_left
          (walk.left % (walk.mark_left - walk.left)) way.turn_count;
      turned = way.turned;
      turn_sums = way.turn_sums;
    }
