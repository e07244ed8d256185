-- A caller's claim about amounts, and a certified text, with their verdicts.
use Rattle.std.specs.Prelude.{ℕ, List, Result, Ok, Err}
use Rattle.bw_model.specs.Groups.{Groups}
use Rattle.bw_model.specs.Certificate.{Certified}
use Rattle.bw_check.specs.Verdict.{IsVerdict, IsVerdictOn}
use Rattle.bw_check.specs.declared.verdict.Verdict.{Verdict}
use Rattle.bw_cert.specs.Spelling.{Value, groups_of}
use Rattle.bw_cert.specs.declared.fault.CertFault.{CertFault}
use Rattle.bw_columns.specs.declared.asked_instance.Host.{Host}
use Rattle.bw_columns.specs.declared.claim.Claim.{Claim}
use Rattle.bw_columns.specs.declared.columns.Columns.{Columns}
use Rattle.bw_columns.specs.Asked.{shape_of, table_of}
use Rattle.bw_columns.specs.Certificates.{Claimed, IsSpelled, claimed_of, claimed_number}

-- a verdict on the amounts by the certificate of the columns
pub record IsVerdictOnClaim (groups : Groups) (amounts : List ℕ) (claimed : Claimed)
    (verdict : Verdict) : Type 0 where
  pub certificate : Certified
  pub spelled : IsSpelled claimed certificate
  pub held : IsVerdict groups amounts certificate verdict

-- the number that refuses the program's host, columns and claim, 0 where none does
abbrev pub claim_refusal_of : Host → Columns → Claim → ℕ
claim_refusal_of host columns claim =
    claimed_number (shape_of host) (table_of columns) (claimed_of claim)

-- the verdict on the instance, the amounts, the flags and the levels that are read in a text
abbrev pub IsVerdictIn : Result Value CertFault → Verdict → Type 0
IsVerdictIn (Ok value) verdict =
    IsVerdictOn (groups_of value) value.groups.amounts value.groups.flags value.groups.levels
    verdict
IsVerdictIn (Err fault) verdict = ⊥
