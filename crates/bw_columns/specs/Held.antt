-- The limits of a round, in columns of numbers.
use Rattle.std.specs.Prelude.{◌≡◌, ℕ, List, Bool, Option, length, map}
use Rattle.bw_model.specs.Groups.{Groups}
use Rattle.bw_questions.specs.HeldRule.{IsRound, round_of}
use Rattle.bw_columns.specs.Asked.{limit_number}
use Rattle.bw_columns.specs.Certificates.{Claimed, AreClaimedLong, columns_in}
use Rattle.bw_columns.specs.declared.held.HeldColumns.{HeldColumns}
use Rattle.bw_columns.specs.Certified.{IsCertifiedPlan}

-- the limits, demands and amounts of a round by the rule, and the columns of the certificate
pub record IsHeldRound (used : Groups) (hungry : List Bool) (limits demands amounts : List ℕ)
    (claimed : Claimed) : Type 0 where
  pub limit_of_each : List (Option ℕ)
  pub round : IsRound used hungry demands amounts limit_of_each
  pub limits_are : limits ≡ map limit_number limit_of_each
  pub certified : IsCertifiedPlan (round_of used hungry) amounts claimed

-- one entry for each row in each column
pub record AreHeldLong (held : HeldColumns) (count : ℕ) : Type 0 where
  pub limits : length held.limits.items ≡ count
  pub demands : length held.demands.items ≡ count
  pub amounts : length held.amounts.items ≡ count
  pub certificate : AreClaimedLong (columns_in held.certificate) count
