-- A give-back is no draw.
use Rattle.std.proofs.Common.{arith}
use Rattle.bw_workers.proofs.Counts.{draws_more}
use Rattle.bw_workers.proofs.draws.Draws.give_back.Goals as goal

pub returns-clause-counted : goal.returns-clause-counted
returns-clause-counted g c =
    let made = draws_more _ _ _ c.ask.ensures.calls in omega (arith, c.requires.counted, made)
