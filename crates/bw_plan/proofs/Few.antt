-- No more groups lie at a depth than there are rows.
use Rattle.std.proofs.Common.{◌≤◌, ◌==◌, ℕ, List, length, arith}
use Rattle.std.specs.List.{range_with_len}
use Rattle.std.proofs.lemmas.List.FromFn.{length-range_with_len}
use Rattle.bw_model.specs.declared.row.Row.{Row}
use Rattle.bw_model.specs.Groups.{depth_of}
use Rattle.bw_demand.specs.ByDepth.{rows_of_depth}
use Rattle.bw_demand.proofs.CallerLemmas.{passing_few}

pub at_depth-le : (rows : List Row) (d : ℕ) → length (rows_of_depth rows d) ≤ length rows
unfolding rows_of_depth
at_depth-le rows d = omega (
  arith,
  passing_few (λ g. depth_of rows g == d) (range_with_len 0 (length rows)),
  length-range_with_len 0 (length rows),
)
