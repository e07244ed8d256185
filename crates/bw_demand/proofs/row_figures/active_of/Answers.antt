-- The goals of `active_of` that are answered by hand.
use Rattle.std.proofs.Common.{ℕ, length, ap, arith}
use Rattle.bw_demand.specs.Figures.{is_active}
use Rattle.bw_demand.proofs.FirstFigures.{children_below, children_few, passing_few}
use Rattle.bw_demand.proofs.row_figures.active_of.Goals as goal

pub active_count-requires : goal.active_count-requires
active_count-requires c =
    children_below c.args.instance.now.rows c.args.g c.children.result.now c.args.most.now
    c.children.ensures c.requires.mosts

pub overflow_cast-result : goal.overflow_cast-result
overflow_cast-result c =
    omega (
      arith,
      c.active_count.ensures,
      passing_few (is_active c.args.most.now) c.children.result.now,
      ap (length {A = ℕ}) c.children.ensures,
      children_few c.args.instance.now.rows c.args.g,
      c.rows-rows.ensures.valid.few,
    )
