-- A draw counts one.
use Rattle.std.proofs.Common.{arith}
use Rattle.bw_workers.proofs.Counts.{draws_more}
use Rattle.bw_workers.proofs.draws.Draws.draw.Goals as goal

pub tell_after-requires-clause-drawn : goal.tell_after-requires-clause-drawn
tell_after-requires-clause-drawn g c κs within =
    let made = draws_more _ _ _ c.ask-reply.ensures.calls in
    omega (arith, c.requires.counted, c.tell_before-begun.ensures.nth, made)

pub returns-clause-counted : goal.returns-clause-counted
returns-clause-counted g c =
    let made = draws_more _ _ _ c.ask-reply.ensures.calls in omega (arith, c.requires.counted, made)
