-- The goals of `rows_at` that are answered by hand.
use Rattle.std.proofs.Common.{length, refl}
use Rattle.std.proofs.lemmas.Option.{slice_get_read}
use Rattle.bw_demand.proofs.CallerLemmas.{depth_is}
use Rattle.bw_plan.proofs.by_depth.rows_at.Goals as goal

pub returns : goal.returns
returns c =
    depth_is c.args.instance.now.rows c.args.depths.now c.args.depth c.index-depths-depth.result
    c.as_slice.result.now c.requires.depths
    (slice_get_read c.args.depths.now
    (length c.args.depths.now) c.args.depth c.index-depths-depth.result refl c.requires.depth
    c.index-depths-depth.is) c.as_slice.ensures.value
