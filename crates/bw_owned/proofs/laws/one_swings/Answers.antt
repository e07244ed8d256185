-- The goals of `one_swings` that are answered by hand.
use Rattle.bw_owned.proofs.Gone.{one_swings, one_of_two_goes}
use Rattle.bw_owned.proofs.laws.one_swings.Goals as goal

pub returns-clause-one : goal.returns-clause-one
returns-clause-one c = one_swings

pub returns-clause-of_two : goal.returns-clause-of_two
returns-clause-of_two c = one_of_two_goes
