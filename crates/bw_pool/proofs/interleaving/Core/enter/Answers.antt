-- A seat that enters leaves the phases counted.
use Rattle.std.proofs.Common.{Some, sym, ap, ◌∙◌, slice_get, arith, length-set}
use Rattle.bw_machine.specs.Seats.{CoreState}
use Rattle.bw_machine.specs.declared.seats.Phase.{Phase}
use Rattle.bw_machine.specs.declared.seats.Phase.TheVariants.{Waiting, Inside}
use Rattle.bw_pool.specs.declared.calls.PoolCall.{PoolCall}
use Rattle.bw_pool.specs.declared.calls.PoolReply.{PoolReply}
use Rattle.bw_pool.specs.Pool.{PoolState}
use Rattle.bw_machine.specs.Schedules.{has_called, is_on_its_way}
use Rattle.bw_machine.proofs.CallerLemmas.{count_set}
use Rattle.bw_pool.proofs.interleaving.Core.enter.Goals as goal

pub invariant_of-self : goal.invariant_of-self
invariant_of-self c =
    let xs = c.self.inside.phases.items in
    let x : Phase PoolCall = Waiting c.in-Some-Waiting.number c.in-Some-Waiting.call in
    let y : Phase PoolCall = Inside c.in-Some-Waiting.call in
    let is = ap (λ (v : CoreState PoolState PoolCall PoolReply). slice_get v.phases c.args.seat)
    c.self.view_is
    ∙ (sym c.phase.ensures ∙ (c.in-Some-Waiting.is ∙ ap Some c.in-Some-Waiting.field-0-is)) in
    let left = count_set (has_called {C = PoolCall}) xs c.args.seat x y is in
    let way = count_set (is_on_its_way {C = PoolCall}) xs c.args.seat x y is in
    record {
      seats = omega (arith, length-set xs c.args.seat y, c.self.invariant.seats);
      entries = omega (arith, left, c.self.invariant.entries);
      on_the_way = omega (arith, way, c.self.invariant.on_the_way);
    }
