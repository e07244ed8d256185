-- Each event is one of the interleaving core, or none.
use Rattle.bw_wake.proofs.CoreRefined.{refines_the_core}
use Rattle.bw_wake.proofs.laws.refines_the_core.Goals as goal

pub returns : goal.returns
returns g c = refines_the_core g.M.Machine.after g.M.Machine.answer
