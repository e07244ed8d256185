-- The goal of `is_free` that is answered by hand.
use Rattle.std.proofs.Common.{◌∙◌, arith}
use Rattle.std.specs.Prelude.{slice_index}
use Rattle.std.proofs.lemmas.Grind.{get_or_default_zero}
use Rattle.bw_check.proofs.Gathered.{first-all}
use Rattle.bw_check.proofs.conditions.is_free.Goals as goal

pub is_children_sum-requires-clause-sum : goal.is_children_sum-requires-clause-sum
is_children_sum-requires-clause-sum c =
    let rows = c.args.instance.now.rows in
    let sums = c.args.tables.now.sums.items in
    let summed = c.requires.tables.summed in
    rw c.rows-rows.ensures.rows
    (c.index.ensures
    ∙ get_or_default_zero sums c.args.g c.index.result.now
    (omega (arith, c.requires.within, summed.one_each))
    ∙ summed.each c.args.g c.requires.within
    ∙ first-all rows (slice_index c.args.amounts.now) c.args.g)
