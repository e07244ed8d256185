-- The goals of `total_of` that are answered by hand.
use Rattle.std.proofs.Common.{◌∙◌, ◌<◌, length, arith, sym}
use Rattle.bw_model.proofs.CallerLemmas.{get_or_within, limited_total-is, AreMaxTotals-capped}
use Rattle.bw_commands.proofs.answers.total.total_of.Goals as goal

pub returns : goal.returns
returns c =
    let groups = c.args.instance.now in
    let most = c.args.gathered.now.most.items in
    let tree = c.rows-rows.ensures.valid.tree in
    let some : 0 < length most = omega (arith, tree.has_root, c.requires.mosts.one_each) in
    c.index.ensures ∙ get_or_within most 0 c.index.result.now some
    ∙ sym (limited_total-is groups tree most
    (AreMaxTotals-capped groups tree most c.requires.mosts))
