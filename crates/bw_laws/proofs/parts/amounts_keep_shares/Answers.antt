-- The goals of `amounts_keep_shares` that are answered by hand.
use Rattle.bw_laws.proofs.PartLemmas.{amounts}
use Rattle.bw_laws.proofs.parts.amounts_keep_shares.Goals as goal

pub returns : goal.returns
returns c = amounts
