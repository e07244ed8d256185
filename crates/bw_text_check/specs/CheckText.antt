-- The answer of the check of a certified text: the line that it prints, and whether the text is
-- accepted.
use Rattle.std.specs.Prelude.{ℕ, ◌≡◌, ◌≤◌, List, [], ◌∷◌, ◌++◌, Bool, true, false, Option, Result}
use Rattle.std.specs.Prelude.{Ok, Err, codes, length}
use Rattle.std.specs.Fmt.{decimal}
use Rattle.std.specs.Io.KnownBytes.{Appends, Consumes}
use Rattle.bw_cert.specs.Faults.{cert_fault_number, cert_fault_name}
use Rattle.bw_cert.specs.Reading.{certified_of}
use Rattle.bw_cert.specs.Spelling.{Value, HoldsPlan, groups_of, text_lines}
use Rattle.bw_cert.specs.declared.fault.CertFault.{CertFault}
use Rattle.bw_check.specs.Faults.{check_fault_number, check_fault_name}
use Rattle.bw_streams.specs.Answers.{refusal_line}
use Rattle.bw_check.specs.Verdict.{IsVerdictOn}
use Rattle.bw_check.specs.declared.verdict.Verdict.{Verdict}
use Rattle.bw_check.specs.declared.verdict.Verdict.TheVariants.{Accepted, Refused}
use Rattle.bw_streams.specs.Fronts.{AppendsFront}
use Rattle.bw_text_check.specs.declared.text_check.Finding.{Finding}
use Rattle.bw_text_check.specs.declared.text_check.Finding.TheVariants.{Checked, Faulty}
use Rattle.bw_text_check.specs.declared.text_check.TheConstants.{TEXT_BYTES}

-- the line of a verdict: a refusal has the row of its group
abbrev pub verdict_line : Verdict → List ℕ
verdict_line Accepted = codes "accepted" ++ 10 ∷ []
verdict_line (Refused fault group) =
    codes "refused " ++ decimal (check_fault_number fault) ++ codes " " ++ check_fault_name fault
    ++ codes " " ++ decimal group ++ 10 ∷ []

-- the line of a text that is no certified text
abbrev pub fault_line : CertFault → List ℕ
fault_line fault = refusal_line (cert_fault_number fault) (cert_fault_name fault)

-- the line that is printed
abbrev pub line_of : Finding → List ℕ
line_of (Checked verdict) = verdict_line verdict
line_of (Faulty fault) = fault_line fault

-- whether that line is `accepted`
abbrev pub is_accepted : Finding → Bool
is_accepted (Checked Accepted) = true
is_accepted (Checked (Refused fault group)) = false
is_accepted (Faulty fault) = false

-- from what a text certifies, or its first fault: that fault, or the verdict on the instance, the
-- amounts, the flags and the levels
abbrev pub IsFindingOf : Result Value CertFault → Finding → Type 0
IsFindingOf (Ok value) (Checked verdict) =
    IsVerdictOn (groups_of value) value.groups.amounts value.groups.flags value.groups.levels
    verdict
IsFindingOf (Ok value) (Faulty fault) = ⊥
IsFindingOf (Err fault) (Checked verdict) = ⊥
IsFindingOf (Err fault) (Faulty found) = found ≡ fault

-- the finding in a text
abbrev pub IsFinding : List ℕ → Finding → Type 0
IsFinding text finding = IsFindingOf (certified_of (text_lines text)) finding

-- A text was read whose line was written, and the answer is whether that line is `accepted`.
pub record Checks (left_old left_new held_old held_new : Option (List ℕ)) (accepted : Bool)
    : Type 0 where
  pub text : List ℕ
  pub finding : Finding
  pub read : Consumes left_old left_new text
  pub small : length text ≤ TEXT_BYTES
  pub found : IsFinding text finding
  pub written : Appends held_old held_new (line_of finding)
  pub exact : accepted ≡ is_accepted finding
  pub sound : accepted ≡ true → HoldsPlan text

-- A text was read, and a front of its line was written.
pub record ChecksFront (left_old left_new held_old held_new : Option (List ℕ)) : Type 0 where
  pub text : List ℕ
  pub finding : Finding
  pub read : Consumes left_old left_new text
  pub small : length text ≤ TEXT_BYTES
  pub found : IsFinding text finding
  pub written : AppendsFront held_old held_new (line_of finding)

-- the exit number of a check
abbrev pub check_status : {E : Type 0} → Result Bool E → ℕ
check_status (Ok true) = 0
check_status (Ok false) = 3
check_status (Err fault) = 1
