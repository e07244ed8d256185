-- The plans that an answer makes.
use Rattle.std.specs.Prelude.{ℕ, ◌+◌, ◌≤◌}
use Rattle.bw_questions.specs.declared.least.setting.Setting.{Setting}
use Rattle.bw_questions.specs.declared.least.setting.Setting.TheVariants.{Weight, Processors}

-- a count before and after at most so many plans
pub record ArePlans (number before after : ℕ) : Type 0 where
  pub no_fewer : before ≤ after
  pub most : after ≤ before + number

-- the halvings of the values of a setting
abbrev pub halvings_of : Setting → ℕ
halvings_of Weight = 14
halvings_of Processors = 7
