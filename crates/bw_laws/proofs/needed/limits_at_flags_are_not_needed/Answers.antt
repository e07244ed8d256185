-- The goals of `limits_at_flags_are_not_needed` that are answered by hand.
use Rattle.bw_laws.proofs.NeededLemmas.{limits_at_flags}
use Rattle.bw_laws.proofs.needed.limits_at_flags_are_not_needed.Goals as goal

pub returns : goal.returns
returns c = limits_at_flags
