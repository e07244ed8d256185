-- A table of unused places is under the rule.
use Rattle.std.proofs.Common.{refl, replicate}
use Rattle.bw_lend.proofs.Kept.{may_make}
use Rattle.bw_lend.proofs.seat.lay.Goals as goal

pub new-requires : goal.new-requires
new-requires g c = may_make _ (replicate 128 0) _ refl c.in_ok-contents.ensures
