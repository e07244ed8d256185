-- The goals of `write_demand` that are answered by hand.
use Rattle.std.proofs.Common.{ap, ◌∙◌, arith}
use Rattle.indexmap.specs.IndexMap.{set_value_at}
use Rattle.bw_tree.specs.Groups.{GroupFields}
use Rattle.bw_tree.specs.Tree.{set_demand}
use Rattle.bw_tree.proofs.PlaceLemmas.{stands_at, written_value}
use Rattle.bw_tree.proofs.tree.write_demand.Goals as goal

pub index_mut-group-requires : goal.index_mut-group-requires
index_mut-group-requires c =
    omega (arith, (stands_at c.args.groups.now.entries c.args.id c.args.place c.requires).within)

pub returns : goal.returns
returns c =
    let gs = c.args.groups.now.entries in
    ap (λ (g : GroupFields). set_value_at gs c.args.place (set_demand c.args.demand g))
    c.group.view_is
    ∙ written_value (set_demand c.args.demand) gs c.args.id c.args.place
    c.index_mut-group.result.now c.requires c.index_mut-group.ensures.value
