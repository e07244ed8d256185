-- Which conditions of the check are needed: without one of them, accepted amounts need not be the
-- plan.
use Rattle.std.specs.Prelude.{◌≢◌, ℕ, ◌<◌, List, length}
use Rattle.bw_model.specs.Groups.{Groups, IsInstance}
use Rattle.bw_model.specs.Certificate.{Certified, AreBounds}
use Rattle.bw_model.specs.Plan.{IsPlan}
use Rattle.bw_check.specs.declared.fault.CheckFault.{CheckFault}
use Rattle.bw_check.specs.Verdict.{IsFree}

-- amounts of an instance, and a certificate, that meet every condition but perhaps this fault's
pub record KeepOthers (fault : CheckFault) (groups : Groups) (amounts : List ℕ)
    (certificate : Certified) : Type 0 where
  pub instance : IsInstance groups
  pub bounds : List ℕ
  pub bounded : AreBounds groups certificate bounds
  pub others : (other : CheckFault) (g : ℕ) → other ≢ fault → g < length groups.rows
      → IsFree groups amounts certificate bounds other g

-- The condition is needed: some amounts keep all others, and are not the plan.
pub record IsNeeded (fault : CheckFault) : Type 0 where
  pub groups : Groups
  pub amounts : List ℕ
  pub certificate : Certified
  pub kept : KeepOthers fault groups amounts certificate
  pub not_the_plan : ¬ IsPlan groups amounts

-- The condition is not needed: amounts that keep all others are the plan.
abbrev pub IsNotNeeded : CheckFault → Type 0
IsNotNeeded fault = (groups : Groups) (amounts : List ℕ) (certificate : Certified)
    → KeepOthers fault groups amounts certificate → IsPlan groups amounts
