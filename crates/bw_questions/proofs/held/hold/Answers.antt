-- The goals of `hold` that are answered by hand.
use Rattle.std.proofs.Common.{◌∙◌, ℕ, List, length, map, ap, subst}
use Rattle.std.specs.Prelude.{IsTrue, ◌↔◌}
use Rattle.bw_model.specs.declared.row.Row.{Row}
use Rattle.bw_model.specs.Certificate.{certified_of}
use Rattle.bw_model.specs.Groups.{Groups}
use Rattle.bw_model.specs.Plan.{IsPlan}
use Rattle.bw_cert.specs.Levels.{AreLevels}
use Rattle.bw_questions.specs.HeldRule.{IsCalm, demand_where, is_hungry}
use Rattle.bw_questions.proofs.AskingRows.{amount_each, as_many}
use Rattle.bw_questions.proofs.held.hold.Goals as goal

pub is_calm-calm-requires : goal.is_calm-calm-requires
is_calm-calm-requires c =
    ap (length {A = ℕ}) c.as_slice.ensures.value
    ∙ amount_each c.in_ok-round.round c.in_ok-round.ensures.valid
    c.in_ok-planned.planned.amounts.items c.in_ok-planned.ensures

pub limits_of-requires-clause-floors : goal.limits_of-requires-clause-floors
limits_of-requires-clause-floors c =
    ap (length {A = ℕ}) c.as_slice-2.ensures.value ∙ c.in_ok-floors.ensures.each

pub limits_of-requires-clause-amounts : goal.limits_of-requires-clause-amounts
limits_of-requires-clause-amounts c =
    let used = c.args.reading.now in
    ap (length {A = ℕ}) c.as_slice-3.ensures.value
    ∙ amount_each c.in_ok-round.round c.in_ok-round.ensures.valid
    c.in_ok-planned.planned.amounts.items c.in_ok-planned.ensures
    ∙ rw c.in_ok-round.ensures.round
    (as_many used (λ g. demand_where used.rows (is_hungry c.args.hungry.now g) g))

pub returns-clause-round : goal.returns-clause-round
returns-clause-round c =
    let amounts = c.in_ok-planned.planned.amounts.items in
    record {
      floors = c.in_ok-floors.floors.items;
      floors_are = c.in_ok-floors.ensures.plan;
      demands_are = c.in_ok-demands.ensures
          ∙ ap (λ (g : Groups). map (λ (r : Row). r.demand) g.rows) c.in_ok-round.ensures.round;
      amounts_are = subst (λ (g : Groups). IsPlan g amounts) c.in_ok-round.ensures.round
          c.in_ok-planned.ensures;
      calm = c.is_calm-calm.result;
      calm_is = subst (λ (g : Groups). IsTrue c.is_calm-calm.result ↔ IsCalm g amounts)
          c.in_ok-round.ensures.round
          (subst (λ (xs : List ℕ). IsTrue c.is_calm-calm.result ↔ IsCalm c.in_ok-round.round xs)
          c.as_slice.ensures.value c.is_calm-calm.ensures);
      limits_are = rw (c.as_slice-2.ensures.value, c.as_slice-3.ensures.value)
          at c.in_ok-limits.ensures;
    }

pub returns-clause-levels : goal.returns-clause-levels
returns-clause-levels c =
    subst (λ (g : Groups). AreLevels g c.in_ok-planned.planned.amounts.items
    (certified_of c.in_ok-certificate.certificate)) c.in_ok-round.ensures.round
    c.in_ok-certificate.ensures.levels
