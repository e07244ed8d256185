-- The goals of `serve` that are answered by hand.
use Rattle.std.proofs.Common.{◌∙◌, ◌<◌, ◌≤◌, ℕ, List, length, map, refl, ap, subst, sym}
use Rattle.std.proofs.Common.{arith, get_or, true}
use Rattle.std.specs.Prelude.{IsTrue, ◌↔◌}
use Rattle.std.specs.List.{range_with_len}
use Rattle.bw_model.specs.declared.limits.TheConstants.{MAX_CAPACITY}
use Rattle.bw_model.specs.declared.row.Row.{Row}
use Rattle.bw_model.specs.Groups.{Groups}
use Rattle.bw_model.specs.Plan.{IsPlan}
use Rattle.bw_questions.specs.HeldRule.{IsCalm, demand_where, everyone, round_limit, round_of}
use Rattle.bw_questions.proofs.AskingRows.{amount_each, amount_small, as_many, everyone-IsInstance}
use Rattle.bw_questions.proofs.held.served.serve.Goals as goal

pub is_calm-calm-requires : goal.is_calm-calm-requires
is_calm-calm-requires c =
    ap (length {A = ℕ}) c.as_slice.ensures.value
    ∙ amount_each c.in_ok-round.round c.in_ok-round.ensures.valid
    c.in_ok-planned.field-0.amounts.items c.in_ok-planned.ensures

pub served_amounts-requires-clause-low : goal.served_amounts-requires-clause-low
served_amounts-requires-clause-low c =
    let used = c.args.reading.now in
    subst (λ (xs : List ℕ). (i : ℕ) → i < length xs → get_or xs i 0 ≤ MAX_CAPACITY)
    (sym c.as_slice-4.ensures.value)
    (λ i below. amount_small (everyone used) (everyone-IsInstance used c.rows-rows.ensures.valid)
    c.in_ok-floors.floors.items c.in_ok-floors.ensures.plan i
    (omega (
      arith,
      below,
      c.in_ok-floors.ensures.each,
      as_many used (λ g. demand_where used.rows true g),
    )))

pub served_amounts-requires-clause-small : goal.served_amounts-requires-clause-small
served_amounts-requires-clause-small c =
    subst (λ (xs : List ℕ). (i : ℕ) → i < length xs → get_or xs i 0 ≤ MAX_CAPACITY)
    (sym c.as_slice-5.ensures.value)
    (λ i below. amount_small c.in_ok-round.round c.in_ok-round.ensures.valid
    c.in_ok-planned.field-0.amounts.items c.in_ok-planned.ensures i
    (omega (
      arith,
      below,
      amount_each c.in_ok-round.round c.in_ok-round.ensures.valid
          c.in_ok-planned.field-0.amounts.items c.in_ok-planned.ensures,
    )))

pub returns : goal.returns
returns c =
    let used = c.args.reading.now in
    let hungry = c.args.hungry.now in
    let planned = c.in_ok-planned.field-0.amounts.items in
    let floors = c.in_ok-floors.floors.items in
    let calm = c.is_calm-calm.result in
    record {
      demands = map (λ (r : Row). r.demand) (round_of used hungry).rows;
      planned = planned;
      held = map (round_limit used calm hungry floors planned)
          (range_with_len 0 (length used.rows));
      round = record {
        floors = floors;
        floors_are = c.in_ok-floors.ensures.plan;
        demands_are = refl;
        amounts_are = subst (λ (g : Groups). IsPlan g planned) c.in_ok-round.ensures.round
            c.in_ok-planned.ensures;
        calm = calm;
        calm_is = subst (λ (g : Groups). IsTrue calm ↔ IsCalm g planned)
            c.in_ok-round.ensures.round
            (subst (λ (xs : List ℕ). IsTrue calm ↔ IsCalm c.in_ok-round.round xs)
            c.as_slice.ensures.value c.is_calm-calm.ensures);
        limits_are = refl;
      };
      amounts_are = rw (c.as_slice-4.ensures.value, c.as_slice-5.ensures.value)
          at c.in_ok-amounts.ensures;
      one_each = c.in_ok-limits.ensures.long;
      limits_are = rw (c.as_slice-2.ensures.value, c.as_slice-3.ensures.value)
          at c.in_ok-limits.ensures.limits;
    }
