-- The work's one sentence as one record, phrase by phrase: of a plan, and of the draws of one
-- period.
use Rattle.std.specs.Prelude.{◌≡◌, ℕ, ◌<◌, ◌≤◌, List, length, map, take, Bool, false, slice_index}
use Rattle.std.specs.List.{All}
use Rattle.bw_machine.specs.declared.history.Made.{Made}
use Rattle.bw_model.specs.declared.row.Row.{Row}
use Rattle.bw_model.specs.Allocation.{IsWithin, IsGreatestTotal}
use Rattle.bw_model.specs.Demand.{AreMaxTotals, limited_total}
use Rattle.bw_model.specs.Groups.{Groups, children_of, is_leaf}
use Rattle.bw_machine.specs.History.{IsLegal, replay, own, own_from, entry_of}
use Rattle.bw_model.specs.Host.{slices_per_processor}
use Rattle.bw_model.specs.Plan.{child_weights, totals}
use Rattle.bw_model.specs.Split.{IsBestSplit}
use Rattle.bw_split.specs.OneSlice.{NoMoveGains}
use Rattle.bw_pool.specs.declared.calls.PoolCall.{PoolCall}
use Rattle.bw_pool.specs.declared.calls.PoolReply.{PoolReply}
use Rattle.bw_pool.specs.Pool.{after, answer}
use Rattle.bw_pool.specs.Drained.{PoolEntry, Drains, fresh, opening, IsDrawnOut}

-- the numbers of a group's children, in order of creation
abbrev pub of_children : List Row → List ℕ → ℕ → List ℕ
of_children rows numbers g = map (slice_index numbers) (children_of rows g)

-- the slices drawn of each group after these calls on a new pool of the amounts
abbrev pub drawn_after : Groups → List ℕ → List PoolEntry → List ℕ
drawn_after groups amounts history = (replay after (opening groups amounts) history).drawn

-- The sentence, of the amounts of a plan, of the calls that each caller made in one period, and of
-- the history of that period. `uses` tells the leaves that use their slices. `drawn` has the slices
-- drawn of each group in the end.
pub record Headline (uses : ℕ → Bool) (groups : Groups) (amounts : List ℕ)
    (calls : ℕ → List (Made PoolCall PoolReply)) (history : List PoolEntry) (drawn : List ℕ)
    : Type 0 where
  -- The plan
  pub allocation : List ℕ
  pub plan : amounts ≡ totals groups.rows allocation
  -- serves as many slices
  pub serves : IsGreatestTotal groups (slice_index amounts 0)
  -- as any allocation within demands, limits and processors can,
  pub within : IsWithin groups allocation
  -- shown by limiting groups: their limits and the demands outside them add up to what is served;
  pub most : List ℕ
  pub mosts : AreMaxTotals groups most
  pub limiting_groups : limited_total groups most ≡ slice_index amounts 0
  -- in every group its split has the least cost of all splits of that amount,
  pub least_cost : (g : ℕ) → g < length groups.rows → is_leaf groups.rows g ≡ false
      → IsBestSplit (slice_index amounts g) (child_weights groups.rows g)
      (of_children groups.rows most g) (of_children groups.rows amounts g)
  -- shown by no gainful one-slice move;
  pub no_gainful_move : (g : ℕ) → g < length groups.rows → is_leaf groups.rows g ≡ false
      → NoMoveGains (child_weights groups.rows g)
      (of_children groups.rows most g) (of_children groups.rows amounts g)
  -- and in every interleaving of draws the history is one thread's,
  pub one_thread : IsLegal after answer (opening groups amounts) history
  -- in ticket order: the calls of a caller are its entries, each at the ticket that it drew,
  pub ticket_order : (caller : ℕ) → caller < groups.shape.processors
      → calls caller ≡ own_from 0 caller history
  -- with each caller's calls once: its entries are its calls, in order, and no entry is without a
  -- caller,
  pub calls_once : (caller : ℕ) → caller < groups.shape.processors
      → map (entry_of caller) (calls caller) ≡ own caller history
  pub callers : All (λ e. e.seat < groups.shape.processors) history
  -- and no group past its plan, after any of the draws.
  pub never_past : (draws g : ℕ)
      → slice_index (drawn_after groups amounts (take draws history)) g ≤ slice_index amounts g
  -- So where each caller draws until its processor is spent or no leaf has more for it,
  pub drained : (caller : ℕ) → caller < groups.shape.processors
      → Drains uses groups.rows (slices_per_processor groups.shape) fresh
      (map (entry_of caller) (calls caller))
  -- what is drawn in the end is the plan at the leaves that are used, and nothing at the others.
  pub replayed : drawn ≡ drawn_after groups amounts history
  pub drawn_out : IsDrawnOut uses groups.rows amounts drawn
