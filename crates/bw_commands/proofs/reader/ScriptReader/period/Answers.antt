-- The goals of `ScriptReader::period` that are answered by hand.
use Rattle.std.proofs.Common.{◌∙◌, ℕ, List, true, sym, subst, ap, length, refl}
use Rattle.bw_model.specs.Groups.{IsInstance}
use Rattle.bw_pool.proofs.CallerLemmas.{plan_is_planned}
use Rattle.bw_tree.specs.Snapshot.{IsDrawnWithin}
use Rattle.bw_commands.proofs.CallerLemmas.{drawn_within}
use Rattle.bw_hierarchy.specs.State.{HierarchyState, booked_period}
use Rattle.bw_commands.specs.Period.{IsPeriod}
use Rattle.bw_demand.specs.Demands.{demands_of}
use Rattle.bw_commands.proofs.Served.{all_used, is_period}
use Rattle.bw_commands.proofs.reader.ScriptReader.period.Goals as goal

pub book-requires-clause-drawn : goal.book-requires-clause-drawn
book-requires-clause-drawn c =
    let groups = c.in_ok-snapshot.snapshot.instance in
    let known : IsInstance groups =
    subst IsInstance (sym c.in_ok-snapshot.ensures.taken.rows)
    c.in_ok-snapshot.ensures.taken.valid in
    ap length c.deref.ensures.value
    ∙ (plan_is_planned groups c.in_ok-plan.plan.amounts.items known c.in_ok-plan.ensures).one_each

pub book-requires-clause-within : goal.book-requires-clause-within
book-requires-clause-within c =
    let groups = c.in_ok-snapshot.snapshot.instance in
    let amounts = c.in_ok-plan.plan.amounts.items in
    let known : IsInstance groups =
    subst IsInstance (sym c.in_ok-snapshot.ensures.taken.rows)
    c.in_ok-snapshot.ensures.taken.valid in
    subst (IsDrawnWithin groups.rows) (sym c.deref.ensures.value)
    (drawn_within groups amounts known c.in_ok-plan.ensures _ amounts
    (all_used groups amounts known c.in_ok-plan.ensures))

pub returns : goal.returns
returns c =
    let after = c.book.new.self in
    let served = is_period c.self.inside.hierarchy after c.in_ok-snapshot.snapshot.instance
    c.in_ok-snapshot.snapshot.quotas.items c.in_ok-plan.plan.amounts.items c.deref.result.now
    (demands_of c.in_ok-gathered.gathered) c.in_ok-snapshot.ensures.taken.rows
    c.in_ok-snapshot.ensures.taken.quotas c.in_ok-snapshot.ensures.taken.valid c.in_ok-plan.ensures
    c.in_ok-gathered.ensures c.deref.ensures.value
    (c.in_ok-book.ensures.booked ∙ ap (λ (h : HierarchyState).
    booked_period h c.in_ok-snapshot.snapshot.instance.rows
    c.in_ok-snapshot.snapshot.quotas.items c.in_ok-gathered.gathered.want.items
    c.deref.result.now) c.take_snapshot.ensures.same) in (
      subst (λ h. (text : List ℕ) × IsPeriod h (λ leaf. true) text after) c.self.view_is served,
      refl,
    )
