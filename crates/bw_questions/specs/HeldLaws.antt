-- Laws of one round: the floor, a leaf's own limit, and limits that admit no more than the plan.
use Rattle.std.specs.Prelude.{◌≡◌, ℕ, ◌<◌, ◌≤◌, List, Bool, true, false, Option, Some, length}
use Rattle.std.specs.Prelude.{min, max, slice_index}
use Rattle.bw_model.specs.Allocation.{total, IsWithin}
use Rattle.bw_model.specs.Groups.{Groups, IsInstance, demand_of, is_leaf}
use Rattle.bw_model.specs.Plan.{IsPlan}
use Rattle.bw_questions.specs.Guarantee.{IsGuaranteed}
use Rattle.bw_questions.specs.HeldRule.{IsRound, IsCalm, everyone, is_hungry, own_limit, round_of}
use Rattle.bw_questions.specs.HeldRule.{with_eighth}
use Rattle.bw_questions.specs.Reading.{IsSameButDemands, IsTrueReading, IsNoneOrAtLeast, limit_at}
use Rattle.bw_questions.specs.Reading.{admitted_at, admitted}

-- No leaf is limited below its guarantee, whatever it wants and whatever was read: it has no limit,
-- or one of at least that. The guarantee is the least that its want gets while the others ask for
-- anything.
abbrev pub NoneBelowItsGuarantee : Type 0
NoneBelowItsGuarantee = (used wants : Groups) (hungry : List Bool) (demands amounts : List ℕ)
    (limits : List (Option ℕ)) (leaf guaranteed : ℕ)
    → IsInstance used → IsRound used hungry demands amounts limits
    → IsInstance wants → IsSameButDemands wants used
    → leaf < length wants.rows → is_leaf wants.rows leaf ≡ true
    → IsGuaranteed wants leaf guaranteed
    → IsNoneOrAtLeast guaranteed (limit_at limits leaf)

-- A leaf that wants at most its guarantee is admitted whole, whatever was read.
abbrev pub GuaranteeIsAdmitted : Type 0
GuaranteeIsAdmitted = (used wants : Groups) (hungry : List Bool) (demands amounts : List ℕ)
    (limits : List (Option ℕ)) (leaf : ℕ)
    → IsInstance used → IsRound used hungry demands amounts limits
    → IsInstance wants → IsSameButDemands wants used
    → leaf < length wants.rows → is_leaf wants.rows leaf ≡ true
    → IsGuaranteed wants leaf (demand_of wants.rows leaf)
    → admitted_at wants limits leaf ≡ demand_of wants.rows leaf

-- While wants move: a leaf is admitted at least the lesser of what it wants now and of what it is
-- guaranteed where it asks for everything, whatever was read.
abbrev pub LesserIsAdmitted : Type 0
LesserIsAdmitted = (used wants : Groups) (hungry : List Bool) (demands amounts : List ℕ)
    (limits : List (Option ℕ)) (leaf guaranteed : ℕ)
    → IsInstance used → IsRound used hungry demands amounts limits
    → IsInstance wants → IsSameButDemands wants used
    → leaf < length wants.rows → is_leaf wants.rows leaf ≡ true
    → IsGuaranteed (everyone wants) leaf guaranteed
    → min (demand_of wants.rows leaf) guaranteed ≤ admitted_at wants limits leaf

-- No leaf is limited above its own limit, whatever was read.
abbrev pub NoneAboveItsLimit : Type 0
NoneAboveItsLimit = (used : Groups) (hungry : List Bool) (demands amounts : List ℕ)
    (limits : List (Option ℕ)) (leaf own : ℕ)
    → IsInstance used → IsRound used hungry demands amounts limits
    → leaf < length used.rows → is_leaf used.rows leaf ≡ true
    → own_limit used.rows leaf ≡ Some own
    → (limit : ℕ) × (limit_at limits leaf ≡ Some limit) × (limit ≤ own)

-- A calm round holds nobody: each leaf has its own limit or none.
abbrev pub CalmHoldsNobody : Type 0
CalmHoldsNobody = (used : Groups) (hungry : List Bool) (demands amounts : List ℕ)
    (limits : List (Option ℕ)) (leaf : ℕ)
    → IsRound used hungry demands amounts limits → IsCalm (round_of used hungry) amounts
    → leaf < length used.rows → is_leaf used.rows leaf ≡ true
    → limit_at limits leaf ≡ own_limit used.rows leaf

-- The limit of a leaf beside what its round asked for it and planned.
pub record IsLimitAsPlanned (used : Groups) (hungry : List Bool) (amounts : List ℕ)
    (limits : List (Option ℕ)) (floor leaf : ℕ) : Type 0 where
  pub asked : admitted_at (round_of used hungry) limits leaf ≡ slice_index amounts leaf
  pub of_hungry : is_hungry hungry leaf ≡ true
      → limit_at limits leaf ≡ Some (slice_index amounts leaf)
  pub of_others : is_hungry hungry leaf ≡ false → (IsCalm (round_of used hungry) amounts → ⊥)
      → (limit : ℕ) × (limit_at limits leaf ≡ Some limit)
      × (limit ≤ max floor (with_eighth (demand_of used.rows leaf)))

-- Whatever was read, each leaf is admitted exactly the plan of what the round asked for. A hungry
-- leaf is limited to it. In a round that is not calm another is limited to its use and an eighth,
-- or to its floor if that is more.
abbrev pub AskedIsAdmittedAsPlanned : Type 0
AskedIsAdmittedAsPlanned = (used : Groups) (hungry : List Bool) (demands amounts : List ℕ)
    (limits : List (Option ℕ)) (leaf : ℕ)
    → IsInstance used → (round : IsRound used hungry demands amounts limits)
    → leaf < length used.rows → is_leaf used.rows leaf ≡ true
    → IsLimitAsPlanned used hungry amounts limits (slice_index round.floors leaf) leaf

-- The admitted amounts: in each group no more than its plan, and all of it fits the host.
pub record IsWithinPlan (wants : Groups) (limits : List (Option ℕ)) (planned : List ℕ) : Type 0
  where
    pub totals : (g : ℕ) → g < length wants.rows
        → total wants.rows (admitted wants limits) g ≤ slice_index planned g
    pub fits : IsWithin wants (admitted wants limits)

-- After a true reading of the wants, the limits admit no more than the plan of the wants.
abbrev pub LimitsAdmitThePlan : Type 0
LimitsAdmitThePlan = (used wants : Groups) (hungry : List Bool) (demands amounts : List ℕ)
    (limits : List (Option ℕ)) (planned : List ℕ)
    → IsInstance wants → IsTrueReading wants used hungry
    → IsRound used hungry demands amounts limits → IsPlan wants planned
    → IsWithinPlan wants limits planned
