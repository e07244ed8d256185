-- The goals of `spelled_is_read` that are answered by hand.
use Rattle.bw_cert.proofs.AllAgain.{certified_again, one_value}
use Rattle.bw_cert.proofs.laws.spelled_is_read.Goals as goal

pub returns-clause-again : goal.returns-clause-again
returns-clause-again c = certified_again

pub returns-clause-one : goal.returns-clause-one
returns-clause-one c = one_value
