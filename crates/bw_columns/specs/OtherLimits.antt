-- The greatest limits of rows away from all goals, in columns of numbers.
use Rattle.std.specs.Prelude.{◌≡◌, ℕ, List, Bool, length, map}
use Rattle.std.specs.List.{range_with_len}
use Rattle.bw_model.specs.declared.row.Row.{Row}
use Rattle.bw_model.specs.Groups.{Groups}
use Rattle.bw_questions.specs.declared.from_root.measure.Measure.{Measure}
use Rattle.bw_questions.specs.declared.other_limits.limited.Limited.{Limited}
use Rattle.bw_questions.specs.declared.other_limits.limited.Limited.TheVariants.{Met, Unmet}
use Rattle.bw_questions.specs.OtherLimits.{IsLimited, cut_row}
use Rattle.bw_columns.specs.Asked.{limit_number}

-- the number of a row's limit: the greatest number where it has none
abbrev pub number_of_row : Row → ℕ
number_of_row r = limit_number r.limit

-- the number of the limit that a row has with limits below those in force
abbrev pub cut_number : Groups → List ℕ → ℕ → ℕ
cut_number groups limits h = number_of_row (cut_row groups limits h)

-- the limit of each row with limits below those in force
abbrev pub cut_numbers : Groups → List ℕ → List ℕ
cut_numbers groups limits = map (cut_number groups limits) (range_with_len 0 (length groups.rows))

-- With limits that meet all goals, these where they are below those in force, and 1. Else the
-- limits of the groups, and 0.
abbrev pub IsToldOfLimits : Groups → Limited → List ℕ → ℕ → Type 0
IsToldOfLimits groups (Met limits) limited met =
    (limited ≡ cut_numbers groups limits.items) × (met ≡ 1)
IsToldOfLimits groups Unmet limited met = (limited ≡ map number_of_row groups.rows) × (met ≡ 0)

-- the greatest limits with which all goals can be met, or that none from the lowest on are such,
-- told
pub record AreOtherLimitsTold (measure : Measure) (groups : Groups) (goals : List ℕ)
    (may : List Bool) (lowest limited : List ℕ) (met : ℕ) : Type 0 where
  pub answer : Limited
  pub held : IsLimited measure groups goals may lowest answer
  pub told : IsToldOfLimits groups answer limited met
