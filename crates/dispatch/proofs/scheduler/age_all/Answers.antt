-- The goals of `age_all` that are answered by hand.
use Rattle.std.proofs.Common.{◌<◌, arith, None, length, ap, ◌∙◌}
use Rattle.dispatch.specs.Reservation.{aged}
use Rattle.dispatch.specs.Steps.{age_fits}
use Rattle.dispatch.proofs.Mapped.{as_it_was, one_more, passes}
use Rattle.dispatch.proofs.scheduler.age_all.Goals as goal

pub aged-requires : goal.aged-requires
aged-requires c =
    let known : c.loop-run.run-index < length c.args.processors.now = omega arith in
    ap (age_fits c.args.ns)
    (as_it_was (aged c.args.ns) c.args.processors.now c.loop-run.processors c.loop-run.run-index
    None c.loop-run.invariant known)
    ∙ passes (age_fits c.args.ns) c.args.processors.now c.loop-run.run-index None known c.requires

pub loop-run-preserved : goal.loop-run-preserved
loop-run-preserved c =
    let known : c.loop-run.run-index < length c.args.processors.now = omega arith in
    one_more (aged c.args.ns) c.args.processors.now c.loop-run.processors c.loop-run.run-index
    None c.aged.result c.loop-run.invariant known c.aged.ensures
