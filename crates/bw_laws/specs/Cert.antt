-- `check` accepts what `cert` of a script answers: cert's, check's and the script's words joined.
use Rattle.std.specs.Prelude.{◌≡◌, ℕ, List, Ok}
use Rattle.bw_hierarchy.specs.State.{HierarchyState}
use Rattle.bw_cert.specs.Reading.{certified_of}
use Rattle.bw_cert.specs.Spelling.{Value, groups_of, text_lines}
use Rattle.bw_check.specs.Verdict.{IsVerdictOn}
use Rattle.bw_check.specs.declared.verdict.Verdict.{Verdict}
use Rattle.bw_check.specs.declared.verdict.Verdict.TheVariants.{Accepted}
use Rattle.bw_commands.specs.CertifiedPlan.{IsCertifiedPlan}

-- the verdict on the whole value of a certified text
abbrev pub IsVerdictOf : Value → Verdict → Type 0
IsVerdictOf value verdict = IsVerdictOn (groups_of value) value.groups.amounts value.groups.flags
    value.groups.levels verdict

-- The text is a certified text, its verdict is `Accepted`, and it has no other verdict.
pub record IsAcceptedText (text : List ℕ) : Type 0 where
  pub value : Value
  pub read : certified_of (text_lines text) ≡ Ok value
  pub accepted : IsVerdictOf value Accepted
  pub only : (verdict : Verdict) → IsVerdictOf value verdict → verdict ≡ Accepted

-- the answer to `cert` is accepted, in every state of a script
abbrev pub CertIsAccepted : Type 0
CertIsAccepted = (h : HierarchyState) (text : List ℕ) → IsCertifiedPlan h text → IsAcceptedText text
