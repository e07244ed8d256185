-- The goals of `harm_is_harm` that are answered by hand.
use Rattle.bw_owned.proofs.Losses.{harm_is_harm}
use Rattle.bw_owned.proofs.laws.harm_is_harm.Goals as goal

pub returns-clause-harm : goal.returns-clause-harm
returns-clause-harm c = harm_is_harm
