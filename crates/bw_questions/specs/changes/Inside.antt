-- Isolation: what happens below a group stays there.
use Rattle.std.specs.Prelude.{◌≡◌, ℕ, ◌<◌, List, length, slice_index}
use Rattle.bw_model.specs.Demand.{AreMaxTotals}
use Rattle.bw_model.specs.Groups.{Groups, IsInstance, weight_of, demand_of, limit_of}
use Rattle.bw_model.specs.Plan.{IsPlan}
use Rattle.bw_questions.specs.changes.Tree.{IsSameTree, IsNotBelow}

-- Two instances that differ below one group alone: all other groups have equal weights, demands and
-- limits, and that group has an equal most.
pub record IsChangedInside (groups others : Groups) (group : ℕ) (most other_most : List ℕ) : Type 0
  where
    pub tree : IsSameTree groups.rows others.rows
    pub inside : group < length groups.rows
    pub weights : (h : ℕ) → IsNotBelow groups.rows group h
        → weight_of others.rows h ≡ weight_of groups.rows h
    pub demands : (h : ℕ) → IsNotBelow groups.rows group h
        → demand_of others.rows h ≡ demand_of groups.rows h
    pub limits : (h : ℕ) → IsNotBelow groups.rows group h → limit_of others h ≡ limit_of groups h
    pub mosts : AreMaxTotals groups most
    pub other_mosts : AreMaxTotals others other_most
    pub same_most : slice_index other_most group ≡ slice_index most group

-- The amounts of the group and of all that is not below it are as they were.
abbrev pub InsideStaysInside : Type 0
InsideStaysInside = (groups others : Groups) (group : ℕ) (most other_most amounts changed : List ℕ)
    → IsInstance groups → IsInstance others
    → IsChangedInside groups others group most other_most
    → IsPlan groups amounts → IsPlan others changed
    → (h : ℕ) → h < length groups.rows → IsNotBelow groups.rows group h
    → slice_index changed h ≡ slice_index amounts h
