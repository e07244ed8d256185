-- Amounts and parts of limits of a scheduler.
use Rattle.std.proofs.Common.{◌≡◌, ℕ, zero, suc, ◌+◌, ◌*◌, ◌/◌, ◌<◌, ◌≤◌, ◌⊎◌, Bool, true, false}
use Rattle.std.proofs.Common.{List, length, get_or, refl, ap, sym, ◌∙◌, arith, inl, inr}
use Rattle.std.proofs.Common.{mul-le-mul_left}
use Rattle.std.specs.Prelude.{max, min, sum}
use Rattle.std.proofs.lemmas.Bool.{cases_eq, cases_lt, eq-eqb, ne_eqb}
use Rattle.std.proofs.lemmas.Bool.{lt-ltb, le-ltb}
use Rattle.std.proofs.Math.Nat.{div-mul-le_self, mul-div_cancel, mul-le-mul_right}
use Rattle.std.proofs.Math.Nat.{lt_of_mul-lt-mul_right, le_of_mul-le-mul_left}
use Rattle.bw_model.proofs.CallerLemmas.{sum_below, sum-is, sum_below-le}
use Rattle.bw_model.proofs.CallerLemmas.{sum_below-term, sum_by-range}
use Rattle.bw_questions.specs.Served.{beside, part_of, served_amount}
use Rattle.bw_questions.proofs.CallerLemmas.{beside_le, div-mono, part_le, part_le_sum}
use Rattle.bw_questions.proofs.CallerLemmas.{served_le}
use Rattle.bw_laws.specs.Parts.{AmountsKeepShares, PartsAreWithin, PartsFillTheLimit, sum_of_parts}
use Rattle.bw_laws.proofs.Quotients.{div-cross, div-above, div-le}

-- Amounts

served_planned : (theirs given floor amount : ℕ) → floor ≤ amount
    → served_amount theirs given floor amount ≡ amount
served_planned theirs given floor amount enough = rw (le-ltb amount floor enough) refl

served_beside : (theirs given floor amount : ℕ) → amount < floor
    → served_amount theirs given floor amount ≡ beside theirs given floor
served_beside theirs given floor amount less = rw (lt-ltb amount floor less) refl

beside_none : (given floor : ℕ) → beside 0 given floor ≡ floor
beside_none given floor = refl

beside_some : (theirs given floor : ℕ) → 0 < theirs
    → beside theirs given floor ≡ floor * max theirs given / theirs
beside_some theirs given floor some = rw (ne_eqb theirs 0 (λ e. omega (arith, some, e))) refl

-- beside leaves that are planned a whole number of times their floors
beside_times : (theirs floor often : ℕ) → 0 < theirs → 1 ≤ often
    → beside theirs (often * theirs) floor ≡ often * floor
beside_times theirs floor often some once =
    let more : theirs ≤ often * theirs = omega (arith, mul-le-mul_right theirs once) in
    let greatest : max theirs (often * theirs) ≡ often * theirs = omega (arith, more) in
    let same : floor * (often * theirs) ≡ often * floor * theirs = omega arith in
    beside_some theirs (often * theirs) floor some
    ∙ ap (λ n. floor * n / theirs) greatest
    ∙ ap (λ n. n / theirs) same
    ∙ mul-div_cancel (often * floor) some

beside_no_more : (theirs given floor : ℕ) → theirs ≤ given
    → beside theirs given floor * theirs ≤ floor * given
beside_no_more theirs given floor more = elim (cases_eq theirs 0) [
  | inl none ↦
      let nothing : beside theirs given floor * theirs ≡ 0 =
      ap (λ n. beside theirs given floor * n) none ∙ omega arith in
      omega (arith, nothing)
  | inr other ↦
      let some : 0 < theirs = omega (arith, other) in
      let greatest : max theirs given ≡ given = omega (arith, more) in
      rw (beside_some theirs given floor some)
      (rw greatest (div-mul-le_self (floor * given) theirs))
]

beside_lost : (theirs given floor : ℕ) → 0 < theirs
    → floor * given < (beside theirs given floor + 1) * theirs
beside_lost theirs given floor some = rw (beside_some theirs given floor some)
    (let above = div-above (floor * max theirs given) theirs some in
    let more : floor * given ≤ floor * max theirs given = mul-le-mul_left floor (omega arith) in
    omega (arith, above, more))

beside_rises : (theirs given more floor : ℕ) → given ≤ more
    → beside theirs given floor ≤ beside theirs more floor
beside_rises theirs given more floor within = elim (cases_eq theirs 0) [
  | inl none ↦ rw none (omega arith)
  | inr other ↦
      let some : 0 < theirs = omega (arith, other) in
      let times : floor * max theirs given ≤ floor * max theirs more =
      mul-le-mul_left floor (omega (arith, within)) in
      rw (beside_some theirs given floor some) (rw (beside_some theirs more floor some)
      (div-mono (floor * max theirs given) (floor * max theirs more) theirs some times))
]

beside_rises_with_floor : (theirs given floor more : ℕ) → floor ≤ more
    → beside theirs given floor ≤ beside theirs given more
beside_rises_with_floor theirs given floor more within = elim (cases_eq theirs 0) [
  | inl none ↦ rw none (omega (arith, within))
  | inr other ↦
      let some : 0 < theirs = omega (arith, other) in
      let times : floor * max theirs given ≤ more * max theirs given =
      mul-le-mul_right (max theirs given) within in
      rw (beside_some theirs given floor some) (rw (beside_some theirs given more some)
      (div-mono (floor * max theirs given) (more * max theirs given) theirs some times))
]

-- the greater of a number and another rises by no greater ratio than the number
max_cross : (theirs more given : ℕ) → theirs ≤ more
    → max more given * theirs ≤ max theirs given * more
max_cross theirs more given within = elim (cases_lt more given) [
  | inl above ↦
      let one : max more given ≡ given = omega (arith, above) in
      let two : max theirs given ≡ given = omega (arith, above, within) in
      rw one (rw two (mul-le-mul_left given within))
  | inr below ↦
      let one : max more given ≡ more = omega (arith, below) in
      let least : theirs ≤ max theirs given = omega arith in
      let times : theirs * more ≤ max theirs given * more = mul-le-mul_right more least in
      rw one (omega (arith, times))
]

beside_falls : (theirs more given floor : ℕ) → 0 < theirs → theirs ≤ more
    → beside more given floor ≤ beside theirs given floor
beside_falls theirs more given floor some within =
    let some_more : 0 < more = omega (arith, some, within) in
    let cross : floor * (max more given * theirs) ≤ floor * (max theirs given * more) =
    mul-le-mul_left floor (max_cross theirs more given within) in
    let times : floor * max more given * theirs ≤ floor * max theirs given * more =
    omega (arith, cross) in
    rw (beside_some more given floor some_more) (rw (beside_some theirs given floor some)
    (div-cross (floor * max more given) more (floor * max theirs given) theirs some_more some
    times))

served_rises : (theirs given more floor amount : ℕ) → given ≤ more
    → served_amount theirs given floor amount ≤ served_amount theirs more floor amount
served_rises theirs given more floor amount within = elim (cases_lt amount floor) [
  | inl less ↦ rw (served_beside theirs given floor amount less)
      (rw (served_beside theirs more floor amount less)
      (beside_rises theirs given more floor within))
  | inr enough ↦ rw (served_planned theirs given floor amount enough)
      (rw (served_planned theirs more floor amount enough) (omega arith))
]

served_rises_with_floor : (theirs given floor more amount : ℕ) → floor ≤ more
    → served_amount theirs given floor amount ≤ served_amount theirs given more amount
served_rises_with_floor theirs given floor more amount within = elim (cases_lt amount floor) [
  | inl less ↦
      let less_more : amount < more = omega (arith, less, within) in
      rw (served_beside theirs given floor amount less)
      (rw (served_beside theirs given more amount less_more)
      (beside_rises_with_floor theirs given floor more within))
  | inr enough ↦ rw (served_planned theirs given floor amount enough)
      (let least = served_le theirs given more amount in omega (arith, least))
]

served_falls : (theirs more given floor amount : ℕ) → 0 < theirs → theirs ≤ more
    → served_amount more given floor amount ≤ served_amount theirs given floor amount
served_falls theirs more given floor amount some within = elim (cases_lt amount floor) [
  | inl less ↦ rw (served_beside more given floor amount less)
      (rw (served_beside theirs given floor amount less)
      (beside_falls theirs more given floor some within))
  | inr enough ↦ rw (served_planned more given floor amount enough)
      (rw (served_planned theirs given floor amount enough) (omega arith))
]

beside_alone : (theirs given floor : ℕ) → given ≤ theirs → beside theirs given floor ≡ floor
beside_alone theirs given floor within = elim (cases_eq theirs 0) [
  | inl none ↦ rw none refl
  | inr other ↦
      let some : 0 < theirs = omega (arith, other) in
      let greatest : max theirs given ≡ theirs = omega (arith, within) in
      beside_some theirs given floor some ∙ ap (λ n. floor * n / theirs) greatest
      ∙ mul-div_cancel floor some
]

pub amounts : AmountsKeepShares
amounts = record {
  enough = served_le;
  planned = served_planned;
  no_more_beside_none = λ theirs given floor amount within less.
      served_beside theirs given floor amount less ∙ beside_alone theirs given floor within;
  times = λ theirs floor amount often some less once.
      served_beside theirs (often * theirs) floor amount less
      ∙ beside_times theirs floor often some once;
  no_more = λ theirs given floor amount less more. rw (served_beside theirs given floor amount less)
      (beside_no_more theirs given floor more);
  lost_below_one = λ theirs given floor amount some less.
      rw (served_beside theirs given floor amount less) (beside_lost theirs given floor some);
  rises_with_plans = served_rises;
  rises_with_floor = served_rises_with_floor;
  falls_with_floors = served_falls;
}

-- Parts

-- what a part is
part_calm : (limit above amount held : ℕ) → part_of true limit above amount held ≡ limit
part_calm limit above amount held = refl

part_unplanned : (calm : Bool) (limit amount held : ℕ) → part_of calm limit 0 amount held ≡ limit
part_unplanned true limit amount held = refl
part_unplanned false limit amount held = refl

part_some : (limit above amount held : ℕ) → 0 < above
    → part_of false limit above amount held ≡ min limit (max (limit * amount / above) held)
part_some limit above amount held some =
    rw (ne_eqb above 0 (λ e. omega (arith, some, e))) refl

-- A part is all of the limit, or a share of it.
part_either : (calm : Bool) (limit above amount held : ℕ)
    → (part_of calm limit above amount held ≡ limit)
    ⊎ ((0 < above)
    × (part_of calm limit above amount held ≡ min limit (max (limit * amount / above) held)))
part_either true limit above amount held = inl refl
part_either false limit above amount held = elim (cases_eq above 0) [
  | inl none ↦ inl (rw none refl)
  | inr other ↦
      let some : 0 < above = omega (arith, other) in
      inr (some, part_some limit above amount held some)
]

part_alone : (calm : Bool) (limit above held : ℕ) → part_of calm limit above above held ≡ limit
part_alone calm limit above held = elim (part_either calm limit above above held) [
  | inl whole ↦ whole
  | inr share ↦
      let all : limit * above / above ≡ limit = mul-div_cancel limit share.0 in
      rw share.1 (omega (arith, all))
]

part_idle : (limit above held : ℕ) → 0 < above → part_of false limit above 0 held ≡ min limit held
part_idle limit above held some =
    let none : limit * 0 / above ≤ 0 = div-le (limit * 0) above 0 some (omega (arith, some)) in
    rw (part_some limit above 0 held some) (omega (arith, none))

part_held : (calm : Bool) (limit above amount held : ℕ)
    → min limit held ≤ part_of calm limit above amount held
part_held calm limit above amount held = elim (part_either calm limit above amount held) [
  | inl whole ↦ rw whole (omega arith)
  | inr share ↦ rw share.1 (omega arith)
]

-- a share of the limit is no more than it
share_le : (limit above amount : ℕ) → 0 < above → amount ≤ above → limit * amount / above ≤ limit
share_le limit above amount some within =
    let times : limit * amount ≤ limit * above = mul-le-mul_left limit within in
    div-le (limit * amount) above limit some (omega (arith, times, some))

part_lost : (calm : Bool) (limit above amount held : ℕ) → 0 < above → amount ≤ above
    → limit * amount < (part_of calm limit above amount held + 1) * above
part_lost calm limit above amount held some within =
    let share : limit * amount / above ≤ part_of calm limit above amount held =
    elim (part_either calm limit above amount held) [
      | inl whole ↦ rw whole (share_le limit above amount some within)
      | inr share ↦ rw share.1 (omega (arith, share_le limit above amount some within))
    ] in
    let more : (limit * amount / above + 1) * above
    ≤ (part_of calm limit above amount held + 1) * above =
    mul-le-mul_right above (omega (arith, share)) in
    omega (arith, div-above (limit * amount) above some, more)

part_share : (limit above amount held : ℕ) → 0 < above
    → held < part_of false limit above amount held
    → part_of false limit above amount held * above ≤ limit * amount
part_share limit above amount held some more =
    let is : part_of false limit above amount held ≡ min limit (max (limit * amount / above) held) =
    part_some limit above amount held some in
    let less : part_of false limit above amount held ≤ limit * amount / above =
    omega (arith, is, more) in
    let times : part_of false limit above amount held * above ≤ limit * amount / above * above =
    mul-le-mul_right above less in
    omega (arith, times, div-mul-le_self (limit * amount) above)

part_rises_with_limit : (calm : Bool) (limit more above amount held : ℕ) → limit ≤ more
    → part_of calm limit above amount held ≤ part_of calm more above amount held
part_rises_with_limit true limit more above amount held within = within
part_rises_with_limit false limit more above amount held within = elim (cases_eq above 0) [
  | inl none ↦ rw none within
  | inr other ↦
      let some : 0 < above = omega (arith, other) in
      let times : limit * amount ≤ more * amount = mul-le-mul_right amount within in
      let shares = div-mono (limit * amount) (more * amount) above some times in
      rw (part_some limit above amount held some) (rw (part_some more above amount held some)
      (omega (arith, within, shares)))
]

part_rises_with_plan : (calm : Bool) (limit above amount more held : ℕ) → amount ≤ more
    → part_of calm limit above amount held ≤ part_of calm limit above more held
part_rises_with_plan true limit above amount more held within = omega arith
part_rises_with_plan false limit above amount more held within = elim (cases_eq above 0) [
  | inl none ↦ rw none (omega arith)
  | inr other ↦
      let some : 0 < above = omega (arith, other) in
      let times : limit * amount ≤ limit * more = mul-le-mul_left limit within in
      let shares = div-mono (limit * amount) (limit * more) above some times in
      rw (part_some limit above amount held some) (rw (part_some limit above more held some)
      (omega (arith, shares)))
]

part_falls : (calm : Bool) (limit above more amount held : ℕ) → above ≤ more
    → part_of calm limit more amount held ≤ part_of calm limit above amount held
part_falls true limit above more amount held within = omega arith
part_falls false limit above more amount held within = elim (cases_eq above 0) [
  | inl none ↦ rw none (part_le false limit more amount held)
  | inr other ↦
      let some : 0 < above = omega (arith, other) in
      let some_more : 0 < more = omega (arith, some, within) in
      let times : limit * amount * above ≤ limit * amount * more =
      mul-le-mul_left (limit * amount) within in
      let shares = div-cross (limit * amount) more (limit * amount) above some_more some times in
      rw (part_some limit more amount held some_more) (rw (part_some limit above amount held some)
      (omega (arith, shares)))
]

pub parts : PartsAreWithin
parts = record {
  within = part_le;
  calm_has_all = part_calm;
  unplanned_has_all = part_unplanned;
  alone_has_all = part_alone;
  idle_has_its_own = part_idle;
  no_less_than_held = part_held;
  lost_below_one = part_lost;
  no_more = part_share;
  rises_with_limit = part_rises_with_limit;
  rises_with_plan = part_rises_with_plan;
  falls_with_row = part_falls;
}

-- Parts of all leaves under a limit

sum_lt : (n : ℕ) (f g : ℕ → ℕ) → 0 < n → ((k : ℕ) → k < n → f k < g k)
    → sum_below n f < sum_below n g
sum_lt zero f g some less = absurd (omega (arith, some))
sum_lt (suc n) f g some less =
    omega (
      arith,
      sum_below-le n f g (λ k below. (let here = less k (omega (arith, below)) in
          omega (arith, here))),
      less n (omega arith),
    )

sum_scaled : (n c : ℕ) (f : ℕ → ℕ) → sum_below n (λ k. c * f k) ≡ c * sum_below n f
sum_scaled zero c f = omega arith
sum_scaled (suc n) c f = omega (arith, sum_scaled n c f)

sum_one_more : (n c : ℕ) (f : ℕ → ℕ)
    → sum_below n (λ k. (f k + 1) * c) ≡ (sum_below n f + n) * c
sum_one_more zero c f = omega arith
sum_one_more (suc n) c f = omega (arith, sum_one_more n c f)

-- the part of leaf k
abbrev part_k : ℕ → List ℕ → List ℕ → ℕ → ℕ
part_k limit planned held k =
    part_of false limit (sum planned) (get_or planned k 0) (get_or held k 0)

parts_below : (limit : ℕ) (planned held : List ℕ) → sum_of_parts limit planned held
    ≡ sum_below (length planned) (part_k limit planned held)
parts_below limit planned held = sum_by-range (part_k limit planned held) (length planned)

limit_is : (limit : ℕ) (planned : List ℕ)
    → sum_below (length planned) (λ k. limit * get_or planned k 0) ≡ limit * sum planned
limit_is limit planned = sum_scaled (length planned) limit (λ k. get_or planned k 0)
    ∙ ap (λ n. limit * n) (sym (sum-is planned))

all_lost : (limit : ℕ) (planned held : List ℕ) → 0 < length planned
    → limit < sum_below (length planned) (part_k limit planned held) + length planned
all_lost limit planned held some = elim (cases_eq (sum planned) 0) [
  | inl none ↦
      let first : part_k limit planned held 0 ≡ limit =
      ap (λ s. part_of false limit s (get_or planned 0 0) (get_or held 0 0)) none in
      let term = sum_below-term (length planned) 0 (part_k limit planned held) some in
      omega (arith, first, term, some)
  | inr other ↦
      let above : 0 < sum planned = omega (arith, other) in
      let each : sum_below (length planned) (λ k. limit * get_or planned k 0)
      < sum_below (length planned) (λ k. (part_k limit planned held k + 1) * sum planned) =
      sum_lt (length planned) (λ k. limit * get_or planned k 0)
      (λ k. (part_k limit planned held k + 1) * sum planned) some
      (λ k below. part_lost false limit (sum planned) (get_or planned k 0) (get_or held k 0) above
      (part_le_sum planned k below)) in
      let times : limit * sum planned
      < (sum_below (length planned) (part_k limit planned held) + length planned) * sum planned =
      omega (
        arith,
        each,
        limit_is limit planned,
        sum_one_more (length planned) (sum planned) (part_k limit planned held),
      ) in
      lt_of_mul-lt-mul_right (sum planned) times
]

-- a part is no more than its share where the leaf is limited to no more than that
part_of_share : (limit above amount held : ℕ) → 0 < above → held * above ≤ limit * amount
    → above * part_of false limit above amount held ≤ limit * amount
part_of_share limit above amount held some within =
    elim (cases_lt held (part_of false limit above amount held)) [
      | inl more ↦ omega (arith, part_share limit above amount held some more)
      | inr less ↦
          let times : part_of false limit above amount held * above ≤ held * above =
          mul-le-mul_right above less in
          omega (arith, times, within)
    ]

all_within : (limit : ℕ) (planned held : List ℕ) → 0 < sum planned
    → ((k : ℕ) → k < length planned → get_or held k 0 * sum planned ≤ limit * get_or planned k 0)
    → sum_below (length planned) (part_k limit planned held) ≤ limit
all_within limit planned held above own =
    let each : sum_below (length planned) (λ k. sum planned * part_k limit planned held k)
    ≤ sum_below (length planned) (λ k. limit * get_or planned k 0) =
    sum_below-le (length planned) (λ k. sum planned * part_k limit planned held k)
    (λ k. limit * get_or planned k 0)
    (λ k below. part_of_share limit (sum planned) (get_or planned k 0) (get_or held k 0) above
    (own k below)) in
    let times : sum planned * sum_below (length planned) (part_k limit planned held)
    ≤ sum planned * limit =
    omega (
      arith,
      each,
      limit_is limit planned,
      sum_scaled (length planned) (sum planned) (part_k limit planned held),
    ) in
    le_of_mul-le-mul_left times above

pub filled : PartsFillTheLimit
filled = record {
  lost_below_one_each = λ limit planned held some. rw (parts_below limit planned held)
      (all_lost limit planned held some);
  no_more = λ limit planned held above own. rw (parts_below limit planned held)
      (all_within limit planned held above own);
}
