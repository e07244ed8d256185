-- The least number that an owner sets with which a group gets so much, by the plan or by its
-- guarantee.
use Rattle.std.specs.Prelude.{ℕ, ◌<◌, ◌≤◌, length}
use Rattle.bw_model.specs.Groups.{Groups, IsInstance}
use Rattle.bw_questions.specs.Gets.{Gets}
use Rattle.bw_questions.specs.declared.from_root.measure.Measure.{Measure}
use Rattle.bw_settings.specs.declared.numbered.Numbered.{Numbered}
use Rattle.bw_settings.specs.declared.numbered.Numbered.TheVariants as numbered
use Rattle.bw_settings.specs.declared.given.Answer.{Answer}
use Rattle.bw_settings.specs.declared.given.Answer.TheVariants as answer
use Rattle.bw_settings.specs.declared.least.Setting.{Setting}
use Rattle.bw_settings.specs.declared.least.Setting.TheVariants.{Least, NoNumber, Untold}
use Rattle.bw_settings.specs.Following.{Follows, AreOnPath, AreOneEach, IsNumbered, IsUntold}
use Rattle.bw_settings.specs.Following.{number_at}

-- the instance that an owner's number makes, unless logarithms do not tell a weight
abbrev pub IsMade : Groups → Follows → ℕ → Numbered → Type 0
IsMade groups follows number (numbered.Made others) =
    IsNumbered groups follows.formulas (number_at follows number) others
IsMade groups follows number numbered.NoWeight = IsUntold

-- for an owner's number a group gets at least so much
pub record GivesAt (measure : Measure) (groups : Groups) (follows : Follows)
    (group amount number : ℕ) : Type 0 where
  pub others : Groups
  pub numbered : IsNumbered groups follows.formulas (number_at follows number) others
  pub reached : Gets measure others group amount

-- whether a number is enough, or neither it nor a lesser one is
abbrev pub IsAnswered : Measure → Groups → Follows → ℕ → ℕ → ℕ → Answer → Type 0
IsAnswered measure groups follows group amount number answer.Enough =
    GivesAt measure groups follows group amount number
IsAnswered measure groups follows group amount number answer.TooLittle =
    (lesser : ℕ) → lesser ≤ number → ¬ GivesAt measure groups follows group amount lesser
IsAnswered measure groups follows group amount number answer.NoWeight = IsUntold

-- the least number from one to another with which a group gets at least so much, or that none of
-- them does, unless logarithms do not tell a weight
abbrev pub IsLeastSetting : Measure → Groups → Follows → ℕ → ℕ → ℕ → ℕ → Setting → Type 0
IsLeastSetting measure groups follows group amount first last (Least number) =
    (first ≤ number) × (number ≤ last) × GivesAt measure groups follows group amount number
    × ((lesser : ℕ) → first ≤ lesser → lesser < number
    → ¬ GivesAt measure groups follows group amount lesser)
IsLeastSetting measure groups follows group amount first last NoNumber = (number : ℕ)
    → first ≤ number → number ≤ last → ¬ GivesAt measure groups follows group amount number
IsLeastSetting measure groups follows group amount first last Untold = IsUntold

-- With a greater number, whose weights are at a group, above it or below it, the group gets what it
-- gets with a lesser one.
abbrev pub GreaterSettingsGiveNoLess : Type 0
GreaterSettingsGiveNoLess = (measure : Measure) (groups : Groups) (follows : Follows)
    (group number more amount : ℕ) (one other : Groups)
    → IsInstance groups → AreOneEach groups follows → AreOnPath groups.rows follows.formulas group
    → group < length groups.rows → number ≤ more
    → IsNumbered groups follows.formulas (number_at follows number) one
    → IsNumbered groups follows.formulas (number_at follows more) other
    → Gets measure one group amount → Gets measure other group amount
