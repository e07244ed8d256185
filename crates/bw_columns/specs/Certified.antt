-- A plan with its certificate, in columns of numbers.
use Rattle.std.specs.Prelude.{◌≡◌, ℕ, List}
use Rattle.bw_model.specs.Groups.{Groups}
use Rattle.bw_model.specs.Plan.{IsPlan}
use Rattle.bw_model.specs.Certificate.{Certified, IsAccepted}
use Rattle.bw_cert.specs.Levels as of
use Rattle.bw_columns.specs.Certificates.{Claimed, columns_of, IsSpelled}

-- the plan, and the columns of its certificate: the tight groups flagged, and the greatest last
-- marks of the children
pub record IsCertifiedPlan (groups : Groups) (amounts : List ℕ) (claimed : Claimed) : Type 0 where
  pub plan : IsPlan groups amounts
  pub certificate : Certified
  pub columns : claimed ≡ columns_of certificate
  pub spelled : IsSpelled claimed certificate
  pub accepted : IsAccepted groups amounts certificate
  pub flags : of.AreTightFlags groups certificate
  pub levels : of.AreLevels groups amounts certificate
