-- What stands at each turn of the loop in `is_drawn_within`.
use Rattle.std.proofs.Common.{ℕ, ◌<◌, ◌≤◌}
use Rattle.std.specs.Prelude.{IfSome, slice_index}
use Rattle.bw_model.specs.Groups.{row_of}
use Rattle.bw_tree.proofs.carry.is_drawn_within.Given as goal

abbrev pub invariant-loop-i : goal.invariant-loop-i
invariant-loop-i l = (g : ℕ) → g < l.i
    → IfSome (row_of l.rows g).limit (λ limit. slice_index l.drawn g ≤ limit)
