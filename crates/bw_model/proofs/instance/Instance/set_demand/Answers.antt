-- The goals of `Instance::set_demand` that are answered by hand.
use Rattle.std.proofs.Common.{◌≡◌, ◌<◌, true, length, subst, sym}
use Rattle.bw_model.specs.Groups.{Groups, is_leaf}
use Rattle.bw_model.proofs.tree.OneRow.{demand_IsIndexed}
use Rattle.bw_model.proofs.instance.Instance.set_demand.Goals as goal

pub invariant_of-self : goal.invariant_of-self
invariant_of-self c =
    demand_IsIndexed c.self.inside.shape c.self.inside.rows.items
    c.self.inside.children.starts.items c.self.inside.children.groups.items c.args.g
    c.index_mut-row.result.now c.args.demand c.self.invariant
    (subst (λ (v : Groups). c.args.g < length v.rows) (sym c.self.view_is) c.requires.within)
    c.index_mut-row.ensures.value c.requires.small
    (subst (λ (v : Groups). 0 < c.args.demand → is_leaf v.rows c.args.g ≡ true)
    (sym c.self.view_is) c.requires.leaf)
