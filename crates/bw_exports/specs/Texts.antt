-- The answer of the check of a certified text.
use Rattle.std.specs.Prelude.{◌≡◌, ◌⊎◌, ℕ, Result}
use Rattle.bw_cert.specs.Faults.{cert_fault_number}
use Rattle.bw_cert.specs.Reading.{Fails}
use Rattle.bw_cert.specs.Spelling.{Value}
use Rattle.bw_cert.specs.declared.fault.CertFault.{CertFault}
use Rattle.bw_check.specs.declared.verdict.Verdict.{Verdict}
use Rattle.bw_columns.specs.Checked.{IsVerdictIn}
use Rattle.bw_exports.specs.Checked.{verdict_number, verdict_row}

-- the number and the row of the verdict
pub record IsVerdictTold (read : Result Value CertFault) (before after number : ℕ) : Type 0 where
  pub verdict : Verdict
  pub held : IsVerdictIn read verdict
  pub number_is : number ≡ verdict_number verdict
  pub row_is : after ≡ verdict_row before verdict

-- the number of the fault with which reading ends, or 71, and the row as it was
pub record IsFaultTold (read : Result Value CertFault) (before after number : ℕ) : Type 0 where
  pub fault : CertFault
  pub found : Fails fault read
  pub number_is : number ≡ cert_fault_number fault
  pub row_is : after ≡ before

-- the answer of the check of a text, with its row
abbrev pub IsTextOutcome : Result Value CertFault → ℕ → ℕ → ℕ → Type 0
IsTextOutcome read before after number =
    IsVerdictTold read before after number ⊎ IsFaultTold read before after number
