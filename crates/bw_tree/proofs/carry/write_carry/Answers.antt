-- The goals of `write_carry` that are answered by hand.
use Rattle.std.proofs.Common.{ap, ◌∙◌}
use Rattle.indexmap.specs.IndexMap.{set_value_at}
use Rattle.bw_tree.specs.Groups.{GroupFields}
use Rattle.bw_tree.specs.Tree.{set_carry}
use Rattle.bw_tree.proofs.CarryLemmas.{written_at}
use Rattle.bw_tree.proofs.PlaceLemmas.{value_there}
use Rattle.bw_tree.proofs.carry.write_carry.Goals as goal

pub returns : goal.returns
returns c =
    let gs = c.args.groups.now.entries in
    let i = c.args.place in
    let g = c.index_mut-group.result.now in
    let there = value_there gs i g c.requires c.index_mut-group.ensures.value in
    ap (λ (x : GroupFields). set_value_at gs i (set_carry c.args.carry x)) c.group.view_is
    ∙ there.written (set_carry c.args.carry g)
    ∙ written_at gs i c.args.carry (there.id, g) there.read
