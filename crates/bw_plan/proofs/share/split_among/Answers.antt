-- The goals of `split_among` that are answered by hand.
use Rattle.std.proofs.Common.{get_or, refl, ◌∙◌}
use Rattle.std.proofs.lemmas.Result.{IfOk-weaker}
use Rattle.bw_model.specs.Split.{IsBestSplit}
use Rattle.bw_plan.specs.Shared.{AreBestParts}
use Rattle.bw_plan.proofs.Shares.{children-CutSplit, cut-AreBestParts}
use Rattle.bw_plan.proofs.share.split_among.Goals as goal

pub split_counted-requires : goal.split_counted-requires
split_counted-requires c =
    children-CutSplit c.args.instance.now c.rows-rows.ensures.valid c.args.most.now
    c.args.amounts.now c.args.g (get_or c.args.amounts.now c.args.g 0)
    c.as_slice.result.now c.as_slice-2.result.now c.requires.can_share c.requires.inner refl
    (c.as_slice.ensures ∙ c.in_ok-weights.ensures)
    (c.as_slice-2.ensures ∙ c.in_ok-mosts.ensures)

pub returns-clause-parts : goal.returns-clause-parts
returns-clause-parts c =
    let amount = get_or c.args.amounts.now c.args.g 0 in
    IfOk-weaker c.split_counted.result
    (λ parts. IsBestSplit amount c.as_slice.result.now c.as_slice-2.result.now parts.items)
    (λ parts. AreBestParts c.args.instance.now c.args.most.now c.args.amounts.now c.args.g
    parts.items)
    (λ parts best. cut-AreBestParts c.args.instance.now c.args.most.now c.args.amounts.now c.args.g
    amount c.as_slice.result.now c.as_slice-2.result.now parts.items refl
    (c.as_slice.ensures ∙ c.in_ok-weights.ensures)
    (c.as_slice-2.ensures ∙ c.in_ok-mosts.ensures) best)
    c.split_counted.ensures.best
