-- Invariant of each turn of the loop in `age_all`: the time has passed for the processors so far.
use Rattle.std.proofs.Common.{◌≡◌, ◌++◌, map, take, drop}
use Rattle.dispatch.specs.Reservation.{aged}
use Rattle.dispatch.proofs.scheduler.age_all.Given as goal

abbrev pub invariant-loop-run : goal.invariant-loop-run
invariant-loop-run l =
    l.processors
    ≡ map (aged l.ns) (take l.run-index l.fn.processors) ++ drop l.run-index l.fn.processors
