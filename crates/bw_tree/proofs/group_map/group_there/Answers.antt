-- The goals of `group_there` that are answered by hand.
use Rattle.std.proofs.Common.{◌<◌, ◌∙◌, eqb, length, rules}
use Rattle.indexmap.proofs.MapLemmas.{Found-position}
use Rattle.bw_tree.proofs.group_map.group_there.Goals as goal

pub index-requires : goal.index-requires
index-requires c =
    let gs = c.args.groups.now.entries in
    let found = Found-position (eqb c.args.id) gs c.args.place c.requires in
    let within : c.args.place < length gs = found.within in
    search rules

pub returns : goal.returns
returns c =
    let gs = c.args.groups.now.entries in
    (Found-position (eqb c.args.id) gs c.args.place c.requires).value ∙ c.index.ensures
