-- The goals of `lost_slices` that are answered by hand.
use Rattle.std.proofs.Common.{rules}
use Rattle.bw_owned.proofs.Losses.{lost_is}
use Rattle.bw_owned.proofs.harm.lost_slices.Goals as goal

pub returns-clause-lost : goal.returns-clause-lost
returns-clause-lost c =
    let lost = lost_is c.args.free c.args.held c.div_ceil-needed.result c.if-held-eq0.false
    (search rules) in
    rw (c.saturating_sub.ensures, c.from.ensures) lost
