-- The holdings add up after every history.
use Rattle.bw_pool.proofs.Ceilings.{stays_sound, cuts_nothing}
use Rattle.bw_pool.proofs.laws.holdings_add_up.Goals as goal

pub returns-clause-stays : goal.returns-clause-stays
returns-clause-stays c = stays_sound

pub returns-clause-cuts : goal.returns-clause-cuts
returns-clause-cuts c = cuts_nothing
