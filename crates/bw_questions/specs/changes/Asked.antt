-- Laws of leaves that ask for more.
use Rattle.std.specs.Prelude.{◌≡◌, ◌≢◌, ℕ, ◌<◌, ◌≤◌, List, true, false, length, min}
use Rattle.std.specs.Prelude.{slice_index}
use Rattle.bw_model.specs.Groups.{Groups, IsInstance, weight_of, demand_of, limit_of, is_leaf}
use Rattle.bw_model.specs.Groups.{is_under}
use Rattle.bw_model.specs.Demand.{AreMaxTotals}
use Rattle.bw_model.specs.Plan.{IsPlan}
use Rattle.bw_questions.specs.changes.Tree.{IsSameTree}

-- An instance with equal weights and limits and no smaller demands.
pub record IsBusier (groups busier : Groups) : Type 0 where
  pub tree : IsSameTree groups.rows busier.rows
  pub weights : (h : ℕ) → weight_of busier.rows h ≡ weight_of groups.rows h
  pub limits : (h : ℕ) → limit_of busier h ≡ limit_of groups h
  pub demands : (h : ℕ) → demand_of groups.rows h ≤ demand_of busier.rows h

-- A busier instance in which one leaf alone asks for more.
pub record IsBusierAt (groups busier : Groups) (leaf : ℕ) : Type 0 where
  pub no_less : IsBusier groups busier
  pub within : leaf < length groups.rows
  pub childless : is_leaf groups.rows leaf ≡ true
  pub others : (h : ℕ) → h ≢ leaf → demand_of busier.rows h ≡ demand_of groups.rows h

-- A leaf has what it has with a greater demand, or its demand if that is less.
abbrev pub DemandOnlyCuts : Type 0
DemandOnlyCuts = (groups busier : Groups) (leaf : ℕ) (amounts others : List ℕ)
    → IsInstance groups → IsInstance busier → IsBusierAt groups busier leaf
    → IsPlan groups amounts → IsPlan busier others
    → slice_index amounts leaf ≡ min (demand_of groups.rows leaf) (slice_index others leaf)

-- Where any leaves ask for more, no leaf has more of what it asked for before.
abbrev pub GreaterDemandsServeNoMore : Type 0
GreaterDemandsServeNoMore = (groups busier : Groups) (leaf : ℕ) (amounts others : List ℕ)
    → IsInstance groups → IsInstance busier → IsBusier groups busier
    → IsPlan groups amounts → IsPlan busier others
    → leaf < length groups.rows → is_leaf groups.rows leaf ≡ true
    → min (demand_of groups.rows leaf) (slice_index others leaf) ≤ slice_index amounts leaf

-- Where a leaf with less than it asks for asks for more, no amount changes.
abbrev pub UnmetDemandChangesNothing : Type 0
UnmetDemandChangesNothing = (groups busier : Groups) (leaf : ℕ) (amounts others : List ℕ)
    → IsInstance groups → IsInstance busier → IsBusierAt groups busier leaf
    → IsPlan groups amounts → IsPlan busier others
    → slice_index amounts leaf < demand_of groups.rows leaf
    → (h : ℕ) → h < length groups.rows → slice_index others h ≡ slice_index amounts h

-- A plan that gives no leaf more than a smaller demand is the plan of the smaller demands.
abbrev pub UnusedDemandChangesNothing : Type 0
UnusedDemandChangesNothing = (groups busier : Groups) (amounts others : List ℕ)
    → IsInstance groups → IsInstance busier → IsBusier groups busier
    → IsPlan groups amounts → IsPlan busier others
    → ((l : ℕ) → l < length groups.rows → is_leaf groups.rows l ≡ true
    → slice_index others l ≤ demand_of groups.rows l)
    → (h : ℕ) → h < length groups.rows → slice_index others h ≡ slice_index amounts h

-- An instance with equal weights and limits and no smaller demands, of which those outside a group
-- are equal.
pub record IsBusierInside (groups busier : Groups) (group : ℕ) : Type 0 where
  pub no_less : IsBusier groups busier
  pub within : group < length groups.rows
  pub outside : (h : ℕ) → is_under groups.rows group h ≡ false
      → demand_of busier.rows h ≡ demand_of groups.rows h

-- Where leaves of a group ask for more, it has what it has then, or its most of before if that is
-- less.
abbrev pub DemandsInsideOnlyCut : Type 0
DemandsInsideOnlyCut = (groups busier : Groups) (group : ℕ) (most amounts others : List ℕ)
    → IsInstance groups → IsInstance busier → IsBusierInside groups busier group
    → AreMaxTotals groups most → IsPlan groups amounts → IsPlan busier others
    → slice_index amounts group ≡ min (slice_index others group) (slice_index most group)
