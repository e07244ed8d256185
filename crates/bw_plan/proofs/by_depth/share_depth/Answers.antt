-- The goals of `share_depth` that are answered by hand.
use Rattle.std.proofs.Common.{ℕ, length, ap, arith}
use Rattle.std.proofs.lemmas.List.{get_or_default}
use Rattle.bw_demand.proofs.CallerLemmas.{depth_within}
use Rattle.bw_plan.proofs.Few.{at_depth-le}
use Rattle.bw_plan.proofs.by_depth.share_depth.Goals as goal

pub piece_of-requires-clause-rows : goal.piece_of-requires-clause-rows
piece_of-requires-clause-rows g c = λ k d lt.
    rw (get_or_default c.rows_at-groups.result.now k d 0 lt)
    (depth_within c.args.instance.now.rows c.args.depth k c.rows_at-groups.result.now
    c.rows_at-groups.ensures lt)

pub piece_of-requires-clause-each : goal.piece_of-requires-clause-each
piece_of-requires-clause-each g c =
    let listed = ap (length {A = ℕ}) c.rows_at-groups.ensures in
    let few = at_depth-le c.args.instance.now.rows c.args.depth in
    omega (arith, listed, few, c.rows-rows.ensures.valid.few)
