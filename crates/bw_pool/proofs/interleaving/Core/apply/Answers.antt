-- A seat that makes its call leaves the phases counted.
use Rattle.std.proofs.Common.{◌≡◌, ◌+◌, ◌++◌, ◌∷◌, [], length, Some, sym, ap, ◌∙◌, slice_get, arith}
use Rattle.std.proofs.Common.{rules, length-set}
use Rattle.bw_machine.specs.Seats.{CoreState}
use Rattle.bw_machine.specs.History.{entry}
use Rattle.bw_machine.specs.declared.history.Entry.{Entry}
use Rattle.bw_machine.specs.declared.seats.Phase.{Phase}
use Rattle.bw_machine.specs.declared.seats.Phase.TheVariants.{Inside, Done}
use Rattle.bw_pool.specs.declared.calls.PoolCall.{PoolCall}
use Rattle.bw_pool.specs.declared.calls.PoolReply.{PoolReply}
use Rattle.bw_pool.specs.Pool.{PoolState}
use Rattle.bw_machine.specs.Schedules.{has_called, is_on_its_way}
use Rattle.bw_machine.proofs.CallerLemmas.{count_set, length_snoc}
use Rattle.bw_pool.proofs.interleaving.Core.apply.Goals as goal

pub invariant_of-self-2 : goal.invariant_of-self-2
invariant_of-self-2 c =
    let xs = c.self.inside.phases.items in
    let x : Phase PoolCall = Inside c.in-Some-Inside.call in
    let y : Phase PoolCall = Done in
    let is = ap (λ (v : CoreState PoolState PoolCall PoolReply). slice_get v.phases c.args.seat)
    c.self.view_is
    ∙ (sym c.phase.ensures ∙ (c.in-Some-Inside.is ∙ ap Some c.in-Some-Inside.field-0-is)) in
    let left = count_set (has_called {C = PoolCall}) xs c.args.seat x y is in
    let way = count_set (is_on_its_way {C = PoolCall}) xs c.args.seat x y is in
    let e : Entry PoolCall PoolReply =
    entry c.args.seat c.in-Some-Inside.call c.step-reply.result in
    let items : c.push.new.self.items ≡ c.self.inside.history.items ++ e ∷ [] = search rules in
    let long : length c.push.new.self.items ≡ length c.self.inside.history.items + 1 =
    ap length items ∙ omega (arith, length_snoc c.self.inside.history.items e) in
    record {
      seats = omega (arith, length-set xs c.args.seat y, c.self.invariant.seats);
      entries = omega (arith, left, long, c.self.invariant.entries);
      on_the_way = omega (arith, way, long, c.self.invariant.on_the_way);
    }
