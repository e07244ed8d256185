-- The reasons of a plan's amounts, in columns of numbers.
use Rattle.std.specs.Prelude.{◌≡◌, ℕ, List, length, map, slice_index_or}
use Rattle.std.specs.List.{range_with_len}
use Rattle.bw_model.specs.Groups.{Groups}
use Rattle.bw_model.specs.Plan.{IsPlan}
use Rattle.bw_demand.specs.Demands.{Demands, IsGathered}
use Rattle.bw_questions.specs.Reasons.{AreReasons}
use Rattle.bw_questions.specs.declared.why.reason.Reason.{Reason}
use Rattle.bw_questions.specs.declared.why.reason.Reason.TheVariants.{NothingAsked, AllWanted}
use Rattle.bw_questions.specs.declared.why.reason.Reason.TheVariants.{OwnLimit, LimitAbove}
use Rattle.bw_questions.specs.declared.why.reason.Reason.TheVariants.{HostFull}

-- the number of a reason
abbrev pub reason_number : Reason → ℕ
reason_number NothingAsked = 0
reason_number AllWanted = 1
reason_number OwnLimit = 2
reason_number (LimitAbove group) = 3
reason_number HostFull = 4

-- the group above whose limit is the reason, else the group itself
abbrev pub blamed_row : ℕ → Reason → ℕ
blamed_row g NothingAsked = g
blamed_row g AllWanted = g
blamed_row g OwnLimit = g
blamed_row g (LimitAbove group) = group
blamed_row g HostFull = g

-- that row for each group
abbrev pub blamed_rows : List Reason → List ℕ
blamed_rows reasons =
    map (λ g. blamed_row g (slice_index_or reasons g NothingAsked))
    (range_with_len 0 (length reasons))

-- the numbers of the reasons of the plan's amounts, and the rows that they blame
pub record AreReasonColumns (groups : Groups) (numbers blamed : List ℕ) : Type 0 where
  pub demands : Demands
  pub gathered : IsGathered groups demands
  pub amounts : List ℕ
  pub plan : IsPlan groups amounts
  pub reasons : List Reason
  pub hold : AreReasons groups demands amounts reasons
  pub numbers_are : numbers ≡ map reason_number reasons
  pub blamed_are : blamed ≡ blamed_rows reasons
