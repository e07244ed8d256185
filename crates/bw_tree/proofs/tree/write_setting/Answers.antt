-- The goals of `write_setting` that are answered by hand.
use Rattle.std.proofs.Common.{sym, ap, ◌∙◌, arith}
use Rattle.indexmap.specs.IndexMap.{set_value_at}
use Rattle.bw_tree.specs.Groups.{GroupFields}
use Rattle.bw_tree.specs.Tree.{set_weight, set_quota, set_period, set_burst, changed_at}
use Rattle.bw_tree.specs.Tree.{changed_by}
use Rattle.bw_tree.specs.declared.setting.Setting.{Setting}
use Rattle.bw_tree.proofs.PlaceLemmas.{stands_at, written_value}
use Rattle.bw_tree.proofs.tree.write_setting.Goals as goal

pub index_mut-group-requires : goal.index_mut-group-requires
index_mut-group-requires c =
    omega (arith, (stands_at c.args.groups.now.entries c.args.id c.args.place c.requires).within)

pub returns-in-Weight : goal.returns-in-Weight
returns-in-Weight c =
    let gs = c.args.groups.now.entries in
    ap (λ (g : GroupFields). set_value_at gs c.args.place (set_weight c.in-Weight.weight g)) c.group.view_is
    ∙ written_value (set_weight c.in-Weight.weight) gs c.args.id c.args.place
    c.index_mut-group.result.now c.requires c.index_mut-group.ensures.value
    ∙ ap (λ (s : Setting). changed_at (changed_by s) gs c.args.id) (sym c.in-Weight.is)

pub returns-in-Limit : goal.returns-in-Limit
returns-in-Limit c =
    let gs = c.args.groups.now.entries in
    ap (λ (g : GroupFields). set_value_at gs c.args.place (set_quota c.in-Limit.quota g)) c.group.view_is
    ∙ written_value (set_quota c.in-Limit.quota) gs c.args.id c.args.place
    c.index_mut-group.result.now c.requires c.index_mut-group.ensures.value
    ∙ ap (λ (s : Setting). changed_at (changed_by s) gs c.args.id) (sym c.in-Limit.is)

pub returns-in-Period : goal.returns-in-Period
returns-in-Period c =
    let gs = c.args.groups.now.entries in
    ap (λ (g : GroupFields). set_value_at gs c.args.place (set_period c.in-Period.period g)) c.group.view_is
    ∙ written_value (set_period c.in-Period.period) gs c.args.id c.args.place
    c.index_mut-group.result.now c.requires c.index_mut-group.ensures.value
    ∙ ap (λ (s : Setting). changed_at (changed_by s) gs c.args.id) (sym c.in-Period.is)

pub returns-in-Burst : goal.returns-in-Burst
returns-in-Burst c =
    let gs = c.args.groups.now.entries in
    ap (λ (g : GroupFields). set_value_at gs c.args.place (set_burst c.in-Burst.burst g)) c.group.view_is
    ∙ written_value (set_burst c.in-Burst.burst) gs c.args.id c.args.place
    c.index_mut-group.result.now c.requires c.index_mut-group.ensures.value
    ∙ ap (λ (s : Setting). changed_at (changed_by s) gs c.args.id) (sym c.in-Burst.is)
