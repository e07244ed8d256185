-- The goals of `Instance::set_row` that are answered by hand.
use Rattle.std.proofs.Common.{◌<◌, length, subst, sym}
use Rattle.bw_model.specs.Groups.{Groups}
use Rattle.bw_model.proofs.tree.OneRow.{row_IsIndexed}
use Rattle.bw_model.proofs.instance.Instance.set_row.Goals as goal

pub invariant_of-self : goal.invariant_of-self
invariant_of-self c =
    row_IsIndexed c.self.inside.shape c.self.inside.rows.items
    c.self.inside.children.starts.items c.self.inside.children.groups.items c.args.g
    c.index_mut-row.result.now c.args.weight c.args.limit c.self.invariant
    (subst (λ (v : Groups). c.args.g < length v.rows) (sym c.self.view_is) c.requires.within)
    c.index_mut-row.ensures.value c.requires.below_root (c.requires.some, c.requires.few)
