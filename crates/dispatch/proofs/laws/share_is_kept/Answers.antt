-- A leaf that waits throughout has its part.
use Rattle.dispatch.proofs.Shares.{share_is_kept}
use Rattle.dispatch.proofs.laws.share_is_kept.Goals as goal

pub returns : goal.returns
returns c = share_is_kept
