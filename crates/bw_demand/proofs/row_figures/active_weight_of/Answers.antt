-- The goals of `active_weight_of` that are answered by hand.
use Rattle.std.proofs.Common.{◌∙◌, ap, length, arith}
use Rattle.bw_model.specs.declared.row.Row.{Row}
use Rattle.bw_model.specs.Groups.{children_of}
use Rattle.bw_demand.proofs.FirstFigures.{children_below, weights_fit, weights_active}
use Rattle.bw_demand.proofs.row_figures.active_weight_of.Goals as goal

pub active_weight-requires-clause-mosts : goal.active_weight-requires-clause-mosts
active_weight-requires-clause-mosts c =
    children_below c.args.instance.now.rows c.args.g c.children.result.now c.args.most.now
    c.children.ensures c.requires.mosts

pub active_weight-requires-clause-rows : goal.active_weight-requires-clause-rows
active_weight-requires-clause-rows c =
    children_below c.args.instance.now.rows c.args.g c.children.result.now c.rows.result.now
    c.children.ensures (ap (length {A = Row}) c.rows.ensures.rows)

pub active_weight-requires-clause-fits : goal.active_weight-requires-clause-fits
active_weight-requires-clause-fits c =
    rw (c.rows.ensures.rows, c.children.ensures)
    (omega (
      arith,
      weights_fit c.args.instance.now c.rows.ensures.valid c.args.most.now c.args.g,
    ))

pub returns : goal.returns
returns c =
    c.active_weight.ensures
    ∙ rw (c.rows.ensures.rows, c.children.ensures)
    (weights_active c.args.instance.now.rows c.args.most.now
    (children_of c.args.instance.now.rows c.args.g))
