-- Whether a group gets so much, by the plan or by its guarantee.
use Rattle.std.specs.Prelude.{ℕ, ◌≤◌}
use Rattle.bw_model.specs.Groups.{Groups}
use Rattle.bw_questions.specs.Guarantee.{IsGuaranteed}
use Rattle.bw_questions.specs.Least.{Reaches}
use Rattle.bw_questions.specs.declared.from_root.measure.Measure.{Measure}
use Rattle.bw_questions.specs.declared.from_root.measure.Measure.TheVariants.{Planned, Guaranteed}

-- the guarantee of a group is at least so much
pub record IsGuaranteedSo (groups : Groups) (group amount : ℕ) : Type 0 where
  pub least : ℕ
  pub guarantee : IsGuaranteed groups group least
  pub enough : amount ≤ least

-- a group gets at least so much, by the plan or by its guarantee
abbrev pub Gets : Measure → Groups → ℕ → ℕ → Type 0
Gets Planned groups group amount = Reaches groups group amount
Gets Guaranteed groups group amount = IsGuaranteedSo groups group amount
