-- The goals of `level_at` that are answered by hand.
use Rattle.std.proofs.Common.{refl, sym}
use Rattle.std.specs.Prelude.{map, slice_index}
use Rattle.bw_model.specs.Groups.{children_of}
use Rattle.bw_model.specs.Plan.{child_weights}
use Rattle.bw_cert.proofs.Levelled.{to_level}
use Rattle.bw_cert.proofs.certifying.level_at.Goals as goal

pub returns : goal.returns
returns c =
    let rows = c.args.instance.now.rows in
    to_level c.args.instance.now c.args.amounts.now c.args.g
    (map (slice_index c.args.amounts.now) (children_of c.args.instance.now.rows c.args.g))
    (child_weights c.args.instance.now.rows c.args.g) (sym c.if-is_leaf.ensures)
    (c.requires.whole (sym c.if-is_leaf.ensures)) refl refl c.greatest_last.result
    c.greatest_last.ensures.greatest c.greatest_last.ensures.none
