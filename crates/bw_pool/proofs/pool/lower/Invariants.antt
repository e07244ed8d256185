-- The groups further up are still to be lowered.
use Rattle.std.proofs.Common.{◌≡◌, ℕ, ◌<◌, ◌≤◌, length, slice_index, Some}
use Rattle.std.specs.List.{AllByRecursion}
use Rattle.bw_pool.specs.Parents.{bare_rows}
use Rattle.bw_pool.specs.Pool.{lowered}
use Rattle.bw_model.proofs.CallerLemmas.{reach, way_from}
use Rattle.bw_pool.proofs.pool.lower.Given as goal

abbrev pub invariant-loop-at : goal.invariant-loop-at
invariant-loop-at l = record {
  on_the_way : reach l.at ≤ length l.parents;
  enough : AllByRecursion (λ g. l.n ≤ slice_index l.fn.drawn g)
      (way_from (bare_rows l.parents) l.at);
  untouched : (g : ℕ) → g < reach l.at → slice_index l.drawn g ≡ slice_index l.fn.drawn g;
  the_rest : lowered (way_from (bare_rows l.parents) l.at) l.n l.drawn
      ≡ lowered (way_from (bare_rows l.parents) (Some l.leaf)) l.n l.fn.drawn;
}

abbrev pub decreases-loop-at : goal.decreases-loop-at
decreases-loop-at l = reach l.at
