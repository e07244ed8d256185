-- What the plan for a number says of it and of lesser ones.
use Rattle.std.proofs.Common.{◌≡◌, ℕ, ◌<◌, ◌≤◌, Bool, false, sym, ◌∙◌, arith, length}
use Rattle.std.proofs.Common.{◌+◌, inl, inr, true≢false}
use Rattle.std.proofs.lemmas.Bool.{cases_lt}
use Rattle.std.specs.Prelude.{IsTrue, ◌↔◌}
use Rattle.bw_model.specs.Groups.{Groups, IsInstance}
use Rattle.bw_questions.specs.Gets.{Gets}
use Rattle.bw_questions.specs.declared.from_root.measure.Measure.{Measure}
use Rattle.bw_settings.specs.Following.{Follows, AreOneEach, AreOnPath, IsNumbered, number_at}
use Rattle.bw_settings.specs.Settings.{GivesAt, IsLeastSetting, GreaterSettingsGiveNoLess}
use Rattle.bw_settings.specs.declared.least.Setting.{Setting}
use Rattle.bw_settings.specs.declared.least.Setting.TheVariants.{Least, NoNumber, Untold}

-- Where a number is not enough, no lesser one is.
pub lesser_fall_short : GreaterSettingsGiveNoLess → (measure : Measure) (groups : Groups)
    (follows : Follows) (group amount number : ℕ) (other : Groups) (enough : Bool)
    → IsInstance groups → AreOneEach groups follows
    → AreOnPath groups.rows follows.formulas group → group < length groups.rows
    → IsNumbered groups follows.formulas (number_at follows number) other
    → (IsTrue enough ↔ Gets measure other group amount) → enough ≡ false
    → (lesser : ℕ) → lesser ≤ number → GivesAt measure groups follows group amount lesser → ⊥
lesser_fall_short law measure groups follows group amount number other enough valid each path inside
    numbered reached short lesser le given =
    let more : Gets measure other group amount =
    law measure groups follows group lesser number amount given.others other valid each path inside
    le given.numbered numbered given.reached in
    true≢false (sym (reached.1 more) ∙ short)

module _ (measure : Measure) (groups : Groups) (follows : Follows)
    (group amount first near last : ℕ) where
  -- The least number up to one that is enough is that up to any greater one.
  pub up_to_more : (setting : Setting) → first ≤ near → near ≤ last
      → GivesAt measure groups follows group amount near
      → IsLeastSetting measure groups follows group amount first near setting
      → IsLeastSetting measure groups follows group amount first last setting
  up_to_more (Least number) order within enough least =
      (least.0, omega (arith, least.1, within), least.2, least.3)
  up_to_more NoNumber order within enough none = absurd (none near order (omega arith) enough)
  up_to_more Untold order within enough untold = untold

  -- Where no number up to one is enough, the least after it is the least of all.
  pub from_less : (setting : Setting) → first ≤ near
      → ((lesser : ℕ) → lesser ≤ near → GivesAt measure groups follows group amount lesser → ⊥)
      → IsLeastSetting measure groups follows group amount (near + 1) last setting
      → IsLeastSetting measure groups follows group amount first last setting
  from_less (Least number) order short least = (
    omega (arith, least.0, order),
    least.1,
    least.2,
    λ lesser above below gives.
        elim (cases_lt near lesser) [
          | inl after ↦ least.3 lesser (omega (arith, after)) below gives
          | inr before ↦ short lesser before gives
        ],
  )
  from_less NoNumber order short none = λ number above below gives.
      elim (cases_lt near number) [
        | inl after ↦ none number (omega (arith, after)) below gives
        | inr before ↦ short number before gives
      ]
  from_less Untold order short untold = untold
