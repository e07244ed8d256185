-- The events so far and the rest are the whole schedule.
use Rattle.std.proofs.Common.{◌≡◌, drop}
use Rattle.bw_machine.specs.Seats.{start, run}
use Rattle.bw_pool.specs.Pool.{after, answer}
use Rattle.bw_pool.proofs.interleaving.Core.play.Given as goal

abbrev pub invariant-loop-event : goal.invariant-loop-event
invariant-loop-event l = run after answer l.core (drop l.event-index l.events)
    ≡ run after answer (start l.seats l.fn.pool) l.events
