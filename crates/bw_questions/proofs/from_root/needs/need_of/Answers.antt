-- The goals of `need_of` that are answered by hand.
use Rattle.std.proofs.Common.{sym, ◌∙◌}
use Rattle.bw_questions.proofs.AtGroup.{leaf_suffices, leaf_beyond}
use Rattle.bw_questions.proofs.from_root.needs.need_of.Goals as goal

pub returns-then-first-limit : goal.returns-then-first-limit
returns-then-first-limit c =
    leaf_beyond c.args.instance.now c.rows-rows.ensures.valid c.args.tops.now c.args.most.now
    c.args.goals.now c.requires.columns c.args.g c.args.needs.now c.first_of-first.result
    c.min-limit.result c.first_of-first.ensures c.min-limit.ensures
    c.if-first-limit.true

pub returns : goal.returns
returns c =
    leaf_suffices c.args.instance.now c.rows-rows.ensures.valid c.args.tops.now c.args.most.now
    c.args.goals.now c.requires.columns c.args.g c.args.needs.now c.first_of-first.result
    c.min-limit.result c.first_of-first.ensures c.min-limit.ensures
    (sym c.is_leaf.ensures ∙ c.if-not-is_leaf.false) c.if-first-limit.false
