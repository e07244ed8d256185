-- The goals of `parts_of_each` that are answered by hand.
use denote.Param.Send.{sendable}
use Rattle.std.proofs.Common.{◌∙◌}
use Rattle.std.proofs.Crossing.{crosses}
use Rattle.bw_plan.proofs.PartsSent.{parts_sent}
use Rattle.bw_plan.specs.Cost.{AreCountedParts}
use Rattle.bw_plan.proofs.Collected.{collected}
use Rattle.bw_plan.proofs.by_depth.parts_of_each.Goals as goal

pub returns : goal.returns
returns g c =
    let found = c.in_ok-collect.ensures in
    let chain = rw (c.map.ensures.base, c.map.ensures.f, c.with_min_len.ensures.base) at found.1 in
    collected (AreCountedParts c.args.instance.now c.args.most.now c.args.amounts.now)
    c.args.groups.now chain.0 found.0 c.in_ok-collect.field-0
    (chain.1 ∙ c.par_iter.ensures) chain.2 found.2

pub map-requires-send-U : goal.map-requires-send-U
map-requires-send-U g c κs within = search (sendable, crosses, parts_sent) depth 40

pub collect-requires-send-Self-Item : goal.collect-requires-send-Self-Item
collect-requires-send-Self-Item g c κs within = search (sendable, crosses, parts_sent) depth 40

pub collect-requires-send-C : goal.collect-requires-send-C
collect-requires-send-C g c κs within = search (sendable, crosses, parts_sent) depth 40
