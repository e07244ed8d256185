-- Laws of rounds on a host that serves what fits, while its wants stay.
use Rattle.std.specs.Prelude.{◌≡◌, ℕ, suc, ◌<◌, List, Bool, true, ◌&&◌, Option, length, count_by}
use Rattle.std.specs.Prelude.{nat_le, slice_index}
use Rattle.std.specs.List.{range_with_len}
use Rattle.bw_model.specs.Groups.{Groups, IsInstance, demand_of, is_leaf}
use Rattle.bw_model.specs.Plan.{IsPlan}
use Rattle.bw_questions.specs.HeldRule.{IsRound}
use Rattle.bw_questions.specs.Reading.{IsTrueReading, IsServed, ReadsNoLess}

-- the limits of a round by the rule
abbrev pub AreLimits : Groups → List Bool → List (Option ℕ) → Type 0
AreLimits used hungry limits =
    (demands : List ℕ) × (amounts : List ℕ) × IsRound used hungry demands amounts limits

-- Rounds of a host while its wants stay. The first reading is any true one, whatever limits stood
-- till then. Each reading gives limits by the rule, and the host serves under them. Each further
-- reading is true, and tells of no leaf less than it was served.
pub record IsRun (wants : Groups) (served : ℕ → ℕ → ℕ) (used : ℕ → Groups) (hungry : ℕ → List Bool)
    (limits : ℕ → List (Option ℕ)) : Type 0 where
  pub readings : (n : ℕ) → IsTrueReading wants (used n) (hungry n)
  pub rule : (n : ℕ) → AreLimits (used n) (hungry n) (limits n)
  pub serves : (n : ℕ) → IsServed wants (limits n) (served (suc n))
  pub no_less : (n : ℕ) → ReadsNoLess wants (served (suc n)) (used (suc n))

-- each leaf was served its planned amount
abbrev pub ServesThePlan : Groups → List ℕ → (ℕ → ℕ) → Type 0
ServesThePlan wants planned served = (l : ℕ) → l < length wants.rows → is_leaf wants.rows l ≡ true
    → served l ≡ slice_index planned l

-- whether a plan gives a leaf all that it wants
abbrev pub is_whole : Groups → List ℕ → ℕ → Bool
is_whole wants planned l =
    is_leaf wants.rows l && nat_le (demand_of wants.rows l) (slice_index planned l)

-- the number of leaves that a plan serves whole
abbrev pub whole_count : Groups → List ℕ → ℕ
whole_count wants planned =
    count_by (is_whole wants planned) (range_with_len 0 (length wants.rows))

-- A reading in which each leaf used all that it wants gives the plan in the next round.
abbrev pub WantsGiveThePlan : Type 0
WantsGiveThePlan = (wants used : Groups) (hungry : List Bool) (limits : List (Option ℕ))
    (next : ℕ → ℕ) (planned : List ℕ) → IsInstance wants → IsPlan wants planned
    → IsTrueReading wants used hungry
    → ((l : ℕ) → l < length wants.rows → is_leaf wants.rows l ≡ true
    → demand_of used.rows l ≡ demand_of wants.rows l)
    → AreLimits used hungry limits → IsServed wants limits next
    → ServesThePlan wants planned next

-- Once the plan of the wants was served, it is served in the next round too.
abbrev pub PlanStays : Type 0
PlanStays = (wants used : Groups) (hungry : List Bool) (limits : List (Option ℕ))
    (served next : ℕ → ℕ) (planned : List ℕ) → IsInstance wants → IsPlan wants planned
    → IsTrueReading wants used hungry → ReadsNoLess wants served used
    → ServesThePlan wants planned served
    → AreLimits used hungry limits → IsServed wants limits next
    → ServesThePlan wants planned next

-- Only the plan of the wants stays: two rounds in which each leaf was served as much served the
-- plan.
abbrev pub NothingElseStays : Type 0
NothingElseStays = (wants used : Groups) (hungry : List Bool) (limits : List (Option ℕ))
    (served next : ℕ → ℕ) (planned : List ℕ) → IsInstance wants → IsPlan wants planned
    → IsTrueReading wants used hungry → ReadsNoLess wants served used
    → AreLimits used hungry limits → IsServed wants limits next
    → ((l : ℕ) → l < length wants.rows → is_leaf wants.rows l ≡ true → next l ≡ served l)
    → ServesThePlan wants planned served

-- With K leaves that the plan serves whole, each round from number K + 1 on serves the plan.
abbrev pub PlanIsReached : Type 0
PlanIsReached = (wants : Groups) (served : ℕ → ℕ → ℕ) (used : ℕ → Groups)
    (hungry : ℕ → List Bool) (limits : ℕ → List (Option ℕ)) (planned : List ℕ)
    → IsInstance wants → IsPlan wants planned
    → IsRun wants served used hungry limits → (n : ℕ) → whole_count wants planned < n
    → ServesThePlan wants planned (served n)
