-- Numbers that owners set, as the calls answer them.
use Rattle.std.specs.Prelude.{◌≡◌, ◌≢◌, ◌⊎◌, ◌<◌, ◌≤◌, ℕ, List, Option, length, min, IfSome}
use Rattle.std.specs.Prelude.{IfNone}
use Rattle.bw_model.specs.declared.limits.TheConstants.{MIN_WEIGHT, MAX_WEIGHT}
use Rattle.bw_columns.specs.declared.columns.TheConstants.{NO_LIMIT}
use Rattle.bw_columns.specs.Asked.{limit_number}
use Rattle.bw_owned.specs.declared.formula.WeightFormula.{WeightFormula}
use Rattle.bw_owned.specs.declared.formula.LimitFormula.{LimitFormula}
use Rattle.bw_owned.specs.Formulas.{weight_formula_number, limit_formula_number}
use Rattle.bw_owned.specs.Formulas.{IsNumberOfNoFormula}
use Rattle.bw_owned.specs.Weights.{IsOwnedWeight, IsUntoldNumber}
use Rattle.bw_owned.specs.Least.{IsLeastNumber}
use Rattle.bw_owned.specs.Limits.{limit_by}
use Rattle.bw_owned.specs.Pods.{IsPodAmount, IsGreatestPart, HasNoRoom}
use Rattle.bw_owned.specs.Requests.{number_for_request}
use Rattle.bw_owned.specs.declared.harm.TheConstants.{MOST_SLICES}
use Rattle.bw_owned.specs.declared.harm.ServedSlices.{ServedSlices}

-- the weight of a number, and 0 where logarithms do not tell it
pub record IsWeightTold (formula number weight : ℕ) : Type 0 where
  pub by : WeightFormula
  pub by_number : weight_formula_number by ≡ formula
  pub weighs : 0 < weight → IsOwnedWeight by number weight
  pub untold : weight ≡ 0 → IsUntoldNumber by number

-- the quota and the own period of a number
pub record IsLimitTold (formula number own_period quota period : ℕ) : Type 0 where
  pub by : LimitFormula
  pub by_number : limit_formula_number by ≡ formula
  pub quota_is : quota ≡ limit_number (limit_by by number own_period).quota
  pub period_is : period ≡ (limit_by by number own_period).period_us

-- the least number that has a weight, and the greatest of all where logarithms do not tell it
pub record IsLeastTold (formula weight number : ℕ) : Type 0 where
  pub by : WeightFormula
  pub by_number : weight_formula_number by ≡ formula
  pub in_range : (MIN_WEIGHT ≤ weight) × (weight ≤ MAX_WEIGHT)
  pub least : number < NO_LIMIT → IsLeastNumber by weight number
  pub untold : NO_LIMIT ≤ number → (other : ℕ) × IsUntoldNumber by other

-- a weight that the kernel takes not
abbrev pub IsNoWeight : ℕ → Type 0
IsNoWeight weight = (weight < MIN_WEIGHT) ⊎ (MAX_WEIGHT < weight)

-- the refusal of the least number: of its formula, else of the weight
abbrev pub IsLeastRefused : ℕ → ℕ → ℕ → Type 0
IsLeastRefused formula weight answer =
    ((answer ≡ 11) × IsNumberOfNoFormula weight_formula_number formula)
    ⊎ ((answer ≡ 12) × IsNoWeight weight)

-- the amount of a pod, and the greatest number where it is more
pub record IsPodTold (kinds amounts : List ℕ) (told : ℕ) : Type 0 where
  pub amount : ℕ
  pub is_amount : IsPodAmount kinds amounts amount
  pub told_is : told ≡ min amount NO_LIMIT

-- the greatest amount of one part for some room, and the greatest number where there is none
pub record IsPartTold (kinds amounts : List ℕ) (part room told : ℕ) : Type 0 where
  pub found : Option ℕ
  pub some : IfSome found (IsGreatestPart kinds amounts part room)
  pub none : IfNone found (HasNoRoom kinds amounts part room)
  pub told_is : told ≡ limit_number found

-- columns of a pod that differ in length, or have no such part
abbrev pub IsNoPart : List ℕ → List ℕ → ℕ → Type 0
IsNoPart kinds amounts part = (length kinds ≢ length amounts) ⊎ (length amounts ≤ part)

-- the number that is written for a request
pub record IsNumberTold (formula request number : ℕ) : Type 0 where
  pub by : WeightFormula
  pub by_number : weight_formula_number by ≡ formula
  pub number_is : number ≡ number_for_request by request

-- the slices of some rounds
abbrev pub slices_of : ℕ → ℕ → ServedSlices
slices_of used planned = record { used = used; planned = planned }

-- sums of rounds of which one is above the greatest
abbrev pub IsSumTooGreat : ℕ → ℕ → ℕ → ℕ → Type 0
IsSumTooGreat free_used free_planned held_used held_planned =
    (MOST_SLICES < free_used) ⊎ (MOST_SLICES < free_planned)
    ⊎ (MOST_SLICES < held_used) ⊎ (MOST_SLICES < held_planned)
