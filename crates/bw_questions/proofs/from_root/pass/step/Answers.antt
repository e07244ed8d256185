-- The goals of `step` that are answered by hand.
use Rattle.std.proofs.Common.{sym, ◌∙◌}
use Rattle.std.proofs.lemmas.Result.{on_ok_weaker}
use Rattle.bw_questions.proofs.AtGroup.{can_share, passed_leaf, passed_more}
use Rattle.bw_questions.proofs.from_root.pass.step.Goals as goal

pub returns-then-is_leaf : goal.returns-then-is_leaf
returns-then-is_leaf c =
    passed_leaf c.args.instance.now c.rows-rows.ensures.valid c.args.tops.now c.args.most.now
    c.args.goals.now c.requires.columns c.args.needs.now c.requires.needs c.args.g
    c.args.passed.now.weights.items c.args.passed.now.amounts.items c.requires.so_far
    c.requires.row (sym c.is_leaf.ensures ∙ c.if-is_leaf.true)

pub share-requires-clause-can : goal.share-requires-clause-can
share-requires-clause-can c =
    can_share c.args.instance.now c.rows-rows.ensures.valid c.args.tops.now c.args.most.now
    c.args.goals.now c.requires.columns c.args.needs.now c.requires.needs c.args.g
    c.args.passed.now.weights.items c.args.passed.now.amounts.items c.requires.so_far
    c.requires.row (sym c.is_leaf.ensures ∙ c.if-is_leaf.false)

pub returns : goal.returns
returns c =
    on_ok_weaker c.share.result
    (passed_more c.args.instance.now c.rows-rows.ensures.valid c.args.tops.now c.args.most.now
    c.args.goals.now c.requires.columns c.args.needs.now c.requires.needs c.args.g
    c.args.passed.now.weights.items c.args.passed.now.amounts.items c.requires.so_far
    c.requires.row c.share.new.passed.weights.items c.share.new.passed.amounts.items)
    c.share.ensures
