-- The goals of `serve_period` that are answered by hand.
use Rattle.std.proofs.Common.{sym, subst}
use Rattle.bw_model.specs.Groups.{IsInstance}
use Rattle.bw_tree.specs.Snapshot.{IsDrawnWithin}
use Rattle.bw_commands.proofs.Within.{drawn_within}
use Rattle.bw_commands.proofs.answers.period.serve_period.Goals as goal

pub book-requires-clause-within : goal.book-requires-clause-within
book-requires-clause-within g c =
    let known : IsInstance c.in_ok-snapshot.snapshot.instance =
    subst IsInstance (sym c.in_ok-snapshot.ensures.taken.rows)
    c.in_ok-snapshot.ensures.taken.valid in
    subst (IsDrawnWithin c.in_ok-snapshot.snapshot.instance.rows) (sym c.deref.ensures.value)
    (drawn_within c.in_ok-snapshot.snapshot.instance c.in_ok-plan.plan.amounts.items known
    c.in_ok-plan.ensures _
    c.in_ok-served.served.drawn.items c.in_ok-served.ensures.drawn)
