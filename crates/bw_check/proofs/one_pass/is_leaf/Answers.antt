-- The goal of `is_leaf` that is answered by hand.
use Rattle.std.proofs.Common.{◌∙◌, arith}
use Rattle.std.proofs.lemmas.Grind.{get_or_default_zero}
use Rattle.bw_check.proofs.Upward.{counted-is_leaf}
use Rattle.bw_check.proofs.one_pass.is_leaf.Goals as goal

pub returns : goal.returns
returns c =
    let children = c.args.siblings.now.children.items in
    counted-is_leaf c.args.rows.now children c.args.g c.index.result.now c.requires.within
    c.requires.siblings.counted
    (c.index.ensures ∙ get_or_default_zero children c.args.g c.index.result.now
    (omega (arith, c.requires.within, c.requires.siblings.counted.one_each)))
