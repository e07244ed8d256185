-- The closed lock has the history of drained workers, and so the headline holds.
use Rattle.std.proofs.Common.{rules, ◌≡◌, ℕ, ◌+◌, ◌*◌, ◌<◌, List, length, sym, ap, ◌∙◌, subst}
use Rattle.std.specs.List.{All}
use Rattle.bw_model.specs.Host.{slices_per_processor}
use Rattle.bw_machine.specs.History.{IsLegal, replay}
use Rattle.bw_pool.specs.Pool.{after, answer}
use Rattle.bw_pool.specs.Drained.{opening, IsDrawnOut}
use Rattle.bw_pool.proofs.CallerLemmas.{drained_workers_draw_the_plan, plan_is_planned}
use Rattle.bw_workers.specs.Headline.{Headline}
use Rattle.bw_workers.specs.Serving.{AreReady, AreSeatsOf, AreInRounds, IsMadeBy, calls_by}
use Rattle.bw_workers.specs.Working.{PoolSeat}
use Rattle.bw_workers.proofs.Carried.{carried}
use Rattle.bw_workers.proofs.DrainedHistories.{drained_history, seats_ready}
use Rattle.bw_workers.proofs.serving.serve.Goals as goal

pub run_workers-requires-clause-ready : goal.run_workers-requires-clause-ready
run_workers-requires-clause-ready g c κs within =
    let calls : ℕ = slices_per_processor c.args.instance.now.shape
    + 2 * length c.deref-2.result.now in
    subst (AreReady c.in-Ok.made.0.lock_id calls) (sym c.in_ok-lending.ensures.ok)
    (seats_ready c.in-Ok.made.0.lock_id calls _ _ c.in-Ok.made.1.items
    c.in-Ok.ensures.seats c.in-Ok.ensures.each.0 (search rules))

pub returns-clause-drained : goal.returns-clause-drained
returns-clause-drained g c =
    let instance = c.args.instance.now in
    let history = c.in-Ok-close.field-0.history.items in
    let opened : c.in-Ok.made.0.seats ≡ instance.shape.processors = search rules in
    let many : length c.in_ok-seats.seats.items ≡ instance.shape.processors = search rules in
    drained_history (g.G.Gate.used c.args.gate.now) instance.shape.processors
    (slices_per_processor instance.shape) instance.rows c.in-Ok.made.0.lock_id
    c.in_ok-seats.seats.items history many c.in_ok-seats.ensures.1 c.in-Ok-close.ensures.own
    (subst (λ (n : ℕ). All (λ e. e.seat < n) history) opened c.in-Ok-close.ensures.callers)

pub returns-clause-drawn : goal.returns-clause-drawn
returns-clause-drawn g c =
    let instance = c.args.instance.now in
    let amounts = c.args.plan.now.amounts.items in
    let history = c.in-Ok-close.field-0.history.items in
    let legal : IsLegal after answer (opening instance amounts) history = search rules in
    let replayed : c.into_drawn-drawn.result.items
    ≡ (replay after (opening instance amounts) history).drawn = search rules in
    subst (IsDrawnOut (g.G.Gate.used c.args.gate.now) instance.rows amounts) (sym replayed)
    (drained_workers_draw_the_plan (g.G.Gate.used c.args.gate.now) instance amounts history
    c.rows-rows.ensures.valid c.requires legal
    (returns-clause-drained g c))

pub returns-clause-headline : goal.returns-clause-headline
returns-clause-headline g c =
    let instance = c.args.instance.now in
    let amounts = c.args.plan.now.amounts.items in
    let history = c.in-Ok-close.field-0.history.items in
    let opened : c.in-Ok.made.0.seats ≡ instance.shape.processors = search rules in
    let many : length c.in_ok-seats.seats.items ≡ instance.shape.processors = search rules in
    let legal : IsLegal after answer (opening instance amounts) history = search rules in
    let replayed : c.into_drawn-drawn.result.items
    ≡ (replay after (opening instance amounts) history).drawn = search rules in
    let held : c.of-handed_back.result.value.items ≡ c.in_ok-seats.seats.items =
    ap (λ v. v.items) c.of-handed_back.ensures in
    subst (λ (seats : List PoolSeat). Headline (g.G.Gate.used c.args.gate.now) instance amounts
    (calls_by seats) history c.into_drawn-drawn.result.items) (sym held)
    (carried (g.G.Gate.used c.args.gate.now) instance amounts c.in-Ok.made.0.lock_id
    c.in_ok-seats.seats.items history c.into_drawn-drawn.result.items
    c.rows-rows.ensures.valid c.requires many c.in_ok-seats.ensures.1 c.in-Ok-close.ensures.own
    (subst (λ (n : ℕ). All (λ e. e.seat < n) history) opened c.in-Ok-close.ensures.callers)
    legal replayed (returns-clause-drawn g c))

pub returns-clause-seats : goal.returns-clause-seats
returns-clause-seats g c =
    let instance = c.args.instance.now in
    let opened : c.in-Ok.made.0.seats ≡ instance.shape.processors = search rules in
    let many : length c.in_ok-seats.seats.items ≡ instance.shape.processors = search rules in
    let held : c.of-handed_back.result.value.items ≡ c.in_ok-seats.seats.items =
    ap (λ v. v.items) c.of-handed_back.ensures in
    subst (AreSeatsOf instance.shape.processors) (sym held)
    (many, λ k d lt. (c.in_ok-seats.ensures.1 k d lt).number)

pub returns-clause-lock : goal.returns-clause-lock
returns-clause-lock g c =
    let instance = c.args.instance.now in
    let amounts = c.args.plan.now.amounts.items in
    let history = c.in-Ok-close.field-0.history.items in
    let opened : c.in-Ok.made.0.opening ≡ opening instance amounts = search rules in
    let held : c.of-handed_back.result.value.items ≡ c.in_ok-seats.seats.items =
    ap (λ v. v.items) c.of-handed_back.ensures in
    let used : c.of-used.result.value ≡ c.in-Ok.made.0 = c.of-used.ensures in
    let made : IsMadeBy instance amounts c.in-Ok.made.0 c.in_ok-seats.seats.items history = record {
      one_lock = λ k d lt. (c.in_ok-seats.ensures.1 k d lt).lock;
      all = c.in-Ok-close.ensures.all;
      opened = opened;
      legal = c.in-Ok-close.ensures.legal;
      own = c.in-Ok-close.ensures.own;
      count = c.in-Ok-close.ensures.count;
    } in
    rw (held, used) made

pub returns-clause-rounds : goal.returns-clause-rounds
returns-clause-rounds g c =
    let held : c.of-handed_back.result.value.items ≡ c.in_ok-seats.seats.items =
    ap (λ v. v.items) c.of-handed_back.ensures in
    subst (AreInRounds (g.G.Gate.used c.args.gate.now) c.args.instance.now.rows) (sym held)
    (λ k d lt. (c.in_ok-seats.ensures.1 k d lt).rounds)

pub new-requires : goal.new-requires
new-requires g c =
    let instance = c.args.instance.now in
    let amounts = c.args.plan.now.amounts.items in
    let lent : c.as_slice.result.now ≡ amounts = search rules in
    let planned = plan_is_planned instance amounts c.rows-rows.ensures.valid c.requires in
    ap length lent ∙ planned.one_each
