-- Weights of numbers by each formula: they grow, and have their ends.
use Rattle.std.proofs.Common.{ℕ, ◌+◌, ◌-◌, ◌*◌, ◌/◌, ◌<◌, ◌≤◌, ◌≡◌, arith, refl}
use Rattle.bw_model.specs.declared.limits.TheConstants.{MIN_WEIGHT, MAX_WEIGHT}
use Rattle.bw_owned.specs.declared.shares.TheConstants.{MIN_SHARES, MAX_SHARES}
use Rattle.bw_owned.specs.declared.formula.WeightFormula.{WeightFormula}
use Rattle.bw_owned.specs.declared.formula.WeightFormula.TheVariants.{SharesLinear}
use Rattle.bw_owned.specs.declared.formula.WeightFormula.TheVariants.{SharesLogarithmic}
use Rattle.bw_owned.specs.declared.formula.WeightFormula.TheVariants.{RequestLinear}
use Rattle.bw_owned.specs.declared.formula.WeightFormula.TheVariants.{RequestLogarithmic}
use Rattle.bw_owned.specs.declared.formula.WeightFormula.TheVariants.{UnitShares, UnitWeight}
use Rattle.bw_owned.specs.Shares.{bounded, linear_weight, least, greatest}
use Rattle.bw_owned.specs.Requests.{shares_of_request}
use Rattle.bw_owned.specs.Weights.{bounded_weight, weight_of_unit_shares, IsOwnedWeight}
use Rattle.bw_owned.specs.Least.{first_number, last_number}
use Rattle.bw_owned.specs.Laws.{WeightsGrow, WeightsAreOne, WeightsAreInRange}
use Rattle.bw_owned.specs.Laws.{WeightsAtTheEnds}
use Rattle.bw_owned.proofs.Growth.{logarithmic_le, logarithmic_range}

bounded_le : (a b : ℕ) → a ≤ b → bounded a ≤ bounded b
bounded_le a b within = omega (arith, within)

bounded_least : (a : ℕ) → MIN_SHARES ≤ bounded a
bounded_least a = omega arith

bounded_most : (a : ℕ) → bounded a ≤ MAX_SHARES
bounded_most a = omega arith

linear_le : (a b : ℕ) → a ≤ b → linear_weight a ≤ linear_weight b
linear_le a b within =
    let shares : bounded a ≤ bounded b = bounded_le a b within in
    steps (bounded a) (bounded b) shares
  where
    steps : (i j : ℕ) → i ≤ j → 1 + (i - 2) * 9999 / 262142 ≤ 1 + (j - 2) * 9999 / 262142
    steps i j less = omega (arith, less)

pub shares_le : (a b : ℕ) → a ≤ b → shares_of_request a ≤ shares_of_request b
shares_le a b within =
    let parts : a * 1024 / 1000 ≤ b * 1024 / 1000 = omega (arith, within) in
    bounded_le (a * 1024 / 1000) (b * 1024 / 1000) parts

weight_le : (a b : ℕ) → a ≤ b → bounded_weight a ≤ bounded_weight b
weight_le a b within = omega (arith, within)

unit_le : (a b : ℕ) → a ≤ b → weight_of_unit_shares a ≤ weight_of_unit_shares b
unit_le a b within =
    let parts : a * 100 / 1024 ≤ b * 100 / 1024 = omega (arith, within) in
    weight_le (a * 100 / 1024) (b * 100 / 1024) parts

same_le : (a b v w : ℕ) → a ≤ b → v ≡ a → w ≡ b → v ≤ w
same_le a b v w within one other = omega (arith, within, one, other)

pub grow : WeightsGrow
grow SharesLinear a b v w within one other =
    same_le (linear_weight a) (linear_weight b) v w (linear_le a b within) one other
grow SharesLogarithmic a b v w within one other =
    logarithmic_le (bounded a) v (bounded b) w (bounded_least a) (bounded_le a b within)
    (bounded_most b) one other
grow RequestLinear a b v w within one other =
    same_le (linear_weight (shares_of_request a)) (linear_weight (shares_of_request b)) v w
    (linear_le (shares_of_request a) (shares_of_request b) (shares_le a b within)) one other
grow RequestLogarithmic a b v w within one other =
    logarithmic_le (shares_of_request a) v (shares_of_request b) w
    (bounded_least (a * 1024 / 1000)) (shares_le a b within) (bounded_most (b * 1024 / 1000))
    one other
grow UnitShares a b v w within one other =
    same_le (weight_of_unit_shares a) (weight_of_unit_shares b) v w (unit_le a b within) one other
grow UnitWeight a b v w within one other =
    same_le (bounded_weight a) (bounded_weight b) v w (weight_le a b within) one other

pub one_weight : WeightsAreOne
one_weight formula a v w one other =
    let more : v ≤ w = grow formula a a v w (omega arith) one other in
    let less : w ≤ v = grow formula a a w v (omega arith) other one in
    omega (arith, more, less)

linear_range : (a v : ℕ) → v ≡ linear_weight a → (MIN_WEIGHT ≤ v) × (v ≤ MAX_WEIGHT)
linear_range a v same =
    let most : bounded a ≤ MAX_SHARES = bounded_most a in
    within (bounded a) v most same
  where
    within : (i v : ℕ) → i ≤ MAX_SHARES → v ≡ 1 + (i - 2) * 9999 / 262142
        → (MIN_WEIGHT ≤ v) × (v ≤ MAX_WEIGHT)
    within i v most same = (omega (arith, same), omega (arith, most, same))

weight_range : (a v : ℕ) → v ≡ bounded_weight a → (MIN_WEIGHT ≤ v) × (v ≤ MAX_WEIGHT)
weight_range a v same = (omega (arith, same), omega (arith, same))

pub in_range : WeightsAreInRange
in_range SharesLinear a v one = linear_range a v one
in_range SharesLogarithmic a v one =
    logarithmic_range (bounded a) v (bounded_least a) (bounded_most a) one
in_range RequestLinear a v one = linear_range (shares_of_request a) v one
in_range RequestLogarithmic a v one =
    logarithmic_range (shares_of_request a) v (bounded_least (a * 1024 / 1000))
    (bounded_most (a * 1024 / 1000)) one
in_range UnitShares a v one = weight_range (a * 100 / 1024) v one
in_range UnitWeight a v one = weight_range a v one

at_first : (formula : WeightFormula) → IsOwnedWeight formula (first_number formula) MIN_WEIGHT
at_first SharesLinear = refl
at_first SharesLogarithmic = least 2 (omega arith)
at_first RequestLinear = refl
at_first RequestLogarithmic = least 2 (omega arith)
at_first UnitShares = refl
at_first UnitWeight = refl

pub at_last : (formula : WeightFormula) → IsOwnedWeight formula (last_number formula) MAX_WEIGHT
at_last SharesLinear = refl
at_last SharesLogarithmic = greatest 262144 (omega arith)
at_last RequestLinear = refl
at_last RequestLogarithmic = greatest 262144 (omega arith)
at_last UnitShares = refl
at_last UnitWeight = refl

pub at_ends : WeightsAtTheEnds
at_ends = record { first = at_first; last = at_last }

-- a number up to one whose weight is too little has too little itself
pub too_little : (formula : WeightFormula) (middle given weight lesser other : ℕ)
    → IsOwnedWeight formula middle given → given < weight → lesser < middle + 1
    → IsOwnedWeight formula lesser other → other < weight
too_little formula middle given weight lesser other at short below there =
    let more : other ≤ given = grow formula lesser middle other given (omega (arith, below)) there at
    in omega (arith, more, short)
