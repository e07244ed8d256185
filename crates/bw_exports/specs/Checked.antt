-- The answer of the check of a caller's claim.
use Rattle.std.specs.Prelude.{◌≡◌, ◌⊎◌, ℕ, ◌<◌, List}
use Rattle.bw_model.specs.Groups.{Groups}
use Rattle.bw_check.specs.Faults.{check_fault_number}
use Rattle.bw_check.specs.declared.verdict.Verdict.{Verdict}
use Rattle.bw_check.specs.declared.verdict.Verdict.TheVariants.{Accepted, Refused}
use Rattle.bw_columns.specs.Asked.{Answers}
use Rattle.bw_columns.specs.Certificates.{Claimed}
use Rattle.bw_columns.specs.Checked.{IsVerdictOnClaim}

-- the number of a verdict
abbrev pub verdict_number : Verdict → ℕ
verdict_number Accepted = 0
verdict_number (Refused fault group) = check_fault_number fault

-- the row of a verdict, else as it was
abbrev pub verdict_row : ℕ → Verdict → ℕ
verdict_row before Accepted = before
verdict_row before (Refused fault group) = group

-- the number and the row of a verdict, where nothing is refused
pub record IsFound (refused : ℕ) (groups : Groups) (amounts : List ℕ) (claimed : Claimed)
    (before after number : ℕ) : Type 0 where
  pub allowed : refused ≡ 0
  pub verdict : Verdict
  pub held : IsVerdictOnClaim groups amounts claimed verdict
  pub number_is : number ≡ verdict_number verdict
  pub row_is : after ≡ verdict_row before verdict

-- a number above 0 that refuses, or 71 where memory was asked for, and the row as it was
pub record IsRefused (refused before after number : ℕ) : Type 0 where
  pub positive : 0 < number
  pub answers : Answers refused number
  pub row_is : after ≡ before

-- the answer of a check, with its row
abbrev pub IsOutcome : ℕ → Groups → List ℕ → Claimed → ℕ → ℕ → ℕ → Type 0
IsOutcome refused groups amounts claimed before after number =
    IsRefused refused before after number
    ⊎ IsFound refused groups amounts claimed before after number
