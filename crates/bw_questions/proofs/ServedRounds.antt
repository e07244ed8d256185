-- What a scheduler is given for a round, beside limits and guarantees.
use Rattle.std.proofs.Common.{◌≡◌, ℕ, ◌<◌, ◌≤◌, List, Bool, Some, length, get_or, ap, ◌∙◌, arith}
use Rattle.std.proofs.Common.{inl, inr, mul-le-mul_left}
use Rattle.std.specs.Prelude.{max, ◌*◌, ◌==◌, ◌||◌}
use Rattle.std.proofs.lemmas.Bool.{cases_Bool, cases_eq, cases_lt, eq-eqb, ne_eqb}
use Rattle.std.proofs.lemmas.Bool.{lt-ltb, le-ltb}
use Rattle.std.proofs.lemmas.List.FromFn.{get_or-map-range_with_len}
use Rattle.std.proofs.lemmas.Nat.{le-div}
use Rattle.bw_model.specs.Groups.{row_of}
use Rattle.bw_plan.specs.Laws.{ThereIsOnePlan}
use Rattle.bw_questions.specs.HeldRule.{is_hungry, leaf_limit}
use Rattle.bw_questions.specs.Reading.{limit_at}
use Rattle.bw_questions.specs.Served.{amount_in, beside, part_of, served_amount, sum_of_full}
use Rattle.bw_questions.specs.Served.{NoneServedAboveALimit}
use Rattle.bw_questions.specs.Served.{NoneServedBelowItsGuarantee}
use Rattle.bw_questions.proofs.RoundFloors.{floor_enough}

-- No part is more than the limit.
pub part_le : (calm : Bool) (limit above amount held : ℕ) → part_of calm limit above amount held ≤ limit
part_le calm limit above amount held = elim (cases_Bool (calm || above == 0)) [
  | inl whole ↦ rw whole (omega arith)
  | inr part ↦ rw part (omega arith)
]

pub none_served_above : NoneServedAboveALimit
none_served_above used hungry amounts limits leaf above own served below is under e =
    let held : ℕ = leaf_limit (row_of used.rows leaf) (is_hungry hungry leaf)
    (get_or served.round.floors leaf 0) (get_or served.planned leaf 0) in
    let least : (n : ℕ) × (limit_at limits leaf ≡ Some n) × (n ≤ part_of served.round.calm own
    (get_or served.planned above 0) (get_or served.planned leaf 0) held) =
    ((served.limits_are leaf below).of_leaf is).none_less above own under e in (
      least.0,
      least.1,
      omega (
        arith,
        least.2,
        part_le served.round.calm own (get_or served.planned above 0)
            (get_or served.planned leaf 0) held,
      ),
    )

-- A floor beside others is no less.
pub beside_le : (theirs given floor : ℕ) → floor ≤ beside theirs given floor
beside_le theirs given floor = elim (cases_eq theirs 0) [
  | inl none ↦ rw (eq-eqb theirs 0 none) (omega arith)
  | inr some ↦ rw (ne_eqb theirs 0 some) (le-div floor (floor * max theirs given) theirs
      (omega (arith, some)) (mul-le-mul_left floor (omega arith)))
]

-- No amount is below the plan or the floor.
pub served_le : (theirs given floor amount : ℕ)
    → max floor amount ≤ served_amount theirs given floor amount
served_le theirs given floor amount = elim (cases_lt amount floor) [
  | inl less ↦ rw (lt-ltb amount floor less) (omega (arith, less, beside_le theirs given floor))
  | inr enough ↦ rw (le-ltb amount floor enough) (omega (arith, enough))
]

pub none_served_below : ThereIsOnePlan → NoneServedBelowItsGuarantee
none_served_below plans used wants hungry amounts limits leaf guaranteed vu served vw same below is
    is_guaranteed =
    let here : leaf < length used.rows = omega (arith, below, same.tree.as_many) in
    let amount : get_or amounts leaf 0
    ≡ amount_in used.rows served.round.floors served.planned leaf =
    ap (λ (xs : List ℕ). get_or xs leaf 0) served.amounts_are
    ∙ get_or-map-range_with_len (amount_in used.rows served.round.floors served.planned) 0
    (length used.rows) leaf leaf 0 here (omega arith) in
    let enough : max (get_or served.round.floors leaf 0) (get_or served.planned leaf 0)
    ≤ get_or amounts leaf 0 =
    rw amount (served_le (sum_of_full used.rows served.round.floors served.planned
    served.round.floors) (sum_of_full used.rows served.round.floors served.planned
    served.planned) (get_or served.round.floors leaf 0) (get_or served.planned leaf 0)) in (
      omega (arith, enough),
      omega (
        arith,
        enough,
        floor_enough plans used wants leaf vu vw same below is guaranteed is_guaranteed
            served.round.floors served.round.floors_are,
      ),
    )
