-- The goals of `figures` that are answered by hand.
use Rattle.std.proofs.Common.{◌<◌, length, refl, ap, ◌∙◌, arith}
use Rattle.std.proofs.lemmas.List.{get_or_read}
use Rattle.bw_model.specs.Groups.{row_of, parent_of}
use Rattle.bw_model.specs.declared.row.Row.{Row}
use Rattle.bw_demand.specs.Figures.{active_weight_of, withheld_slices}
use Rattle.bw_demand.proofs.FirstFigures.{active_number, withheld_of, one_more}
use Rattle.bw_demand.proofs.row_figures.figures.Goals as goal

pub loop-g-preserved : goal.loop-g-preserved
loop-g-preserved c =
    let groups = c.args.instance.now in
    let most = c.args.gathered.now.most.items in
    let wants = c.args.gathered.now.want.items in
    let below : c.loop-g.g < length c.args.instance.now.rows =
    omega (arith, c.loop-g-test.true, ap (length {A = Row}) c.rows-rows.ensures.rows) in
    record {
      children = one_more (active_number groups most) c.loop-g.g c.loop-g.active.items
          c.push.new.self.items c.active_of.result c.loop-g.invariant.children
          c.in_ok-push.ensures.items
          (c.active_of.ensures ∙ rw c.as_slice-most.ensures.value refl);
      weights_are = one_more (active_weight_of groups.rows most) c.loop-g.g
          c.loop-g.active_weight.items c.push-in-loop-g.new.self.items c.active_weight_of.result
          c.loop-g.invariant.weights_are c.in_ok-push-2.ensures.items
          (c.active_weight_of.ensures ∙ rw c.as_slice-most.ensures.value refl);
      slices = one_more (withheld_of groups most) c.loop-g.g c.loop-g.withheld.items
          c.push-in-loop-g-2.new.self.items c.withheld_slices.result c.loop-g.invariant.slices
          c.in_ok-push-3.ensures.items
          (c.withheld_slices.ensures
          ∙ rw c.rows-rows.ensures.rows
          (ap
          (withheld_slices (parent_of groups.rows c.loop-g.g) (row_of groups.rows c.loop-g.g).limit)
          (get_or_read wants c.loop-g.g c.index.result.now
          (omega (arith, below, c.requires.gathered.wants_each)) c.index.ensures 0
          ∙ c.requires.gathered.wants c.loop-g.g below)));
    }
