-- A played schedule is one thread's work, within the ceilings.
use Rattle.std.proofs.Common.{◌≡◌, ◌∙◌, sym, subst}
use Rattle.std.proofs.lemmas.List.{at_drop_all}
use Rattle.bw_machine.specs.Seats.{CoreState, start, run, takes}
use Rattle.bw_pool.specs.Pool.{PoolState, after, answer, IsWithinCeilings}
use Rattle.bw_machine.specs.Schedules.{IsOneThread}
use Rattle.bw_pool.specs.declared.calls.PoolCall.{PoolCall}
use Rattle.bw_pool.specs.declared.calls.PoolReply.{PoolReply}
use Rattle.bw_pool.proofs.Ceilings.{never_past_the_plan}
use Rattle.bw_machine.proofs.CallerLemmas.{every_schedule_is_one_thread}
use Rattle.bw_pool.proofs.interleaving.Core.play.Goals as goal

pub returns-clause-one_thread : goal.returns-clause-one_thread
returns-clause-one_thread c =
    let played : c.loop-event.core
    ≡ run after answer (start c.args.seats c.args.pool) c.args.events.now =
    sym (at_drop_all (run after answer c.loop-event.core) c.args.events.now c.loop-event.event-index
    c.loop-event-test.false) ∙ c.loop-event.invariant in
    subst (λ (s : CoreState PoolState PoolCall PoolReply). IsOneThread after answer c.args.pool
    (takes after answer (start c.args.seats c.args.pool) c.args.events.now) s)
    (sym played) (every_schedule_is_one_thread after answer c.args.pool c.args.seats
    c.args.events.now)

pub returns-clause-within : goal.returns-clause-within
returns-clause-within c =
    let one = returns-clause-one_thread c in
    subst (λ (m : PoolState). IsWithinCeilings c.args.pool m) (sym one.replayed)
    (never_past_the_plan c.args.pool c.loop-event.core.history c.all_drawn-drawn.ensures.sound)
