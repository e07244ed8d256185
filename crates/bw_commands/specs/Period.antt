-- The answer to `period`: the slices that were drawn at the root, and the counters and what is left
-- over after it.
use Rattle.std.specs.Prelude.{◌≡◌, ℕ, List, Bool, codes, slice_index}
use Rattle.bw_model.specs.Plan.{IsPlan}
use Rattle.bw_demand.specs.Demands.{Demands, IsGathered}
use Rattle.bw_pool.specs.Drained.{IsDrawnOut}
use Rattle.bw_tree.specs.Snapshot.{instance_of, base_of}
use Rattle.bw_hierarchy.specs.State.{HierarchyState, booked_period}
use Rattle.bw_streams.specs.Answers.{number_line}

-- The text is the answer to `period`. In every schedule the plan was drawn at the leaves that use
-- their slices. The wants, the drawn slices and the slices left over are booked.
pub record IsPeriod (h : HierarchyState) (uses : ℕ → Bool) (text : List ℕ) (after : HierarchyState)
    : Type 0 where
  pub amounts : List ℕ
  pub demands : Demands
  pub drawn : List ℕ
  pub plan : IsPlan (instance_of h.tree h.shape) amounts
  pub gathered : IsGathered (instance_of h.tree h.shape) demands
  pub drawn_out : IsDrawnOut uses (instance_of h.tree h.shape).rows amounts drawn
  pub is : text ≡ number_line (codes "served ") (slice_index drawn 0)
  pub state : after ≡ booked_period h (instance_of h.tree h.shape).rows
      (base_of h.tree.groups h.shape) demands.want drawn
