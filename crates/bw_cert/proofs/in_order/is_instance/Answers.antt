-- The goal of `is_instance` that is answered by hand.
use Rattle.std.proofs.Common.{◌<◌, ◌≤◌, length, arith, rules}
use Rattle.bw_model.specs.declared.limits.TheConstants.{MAX_GROUPS}
use Rattle.bw_model.specs.Groups.{Groups}
use Rattle.bw_cert.proofs.Ordered.{ordered-IsInstance}
use Rattle.bw_cert.proofs.in_order.is_instance.Goals as goal

pub returns-in-Ok : goal.returns-in-Ok
returns-in-Ok c ordered =
    let groups : Groups = record { shape = c.args.shape; rows = c.args.rows.now } in
    let some : 0 < length c.args.rows.now = search rules in
    let few : length c.args.rows.now ≤ MAX_GROUPS = omega (arith, c.if-rows-gt-MAX_GROUPS.false) in
    ordered-IsInstance groups c.slice_us-slice_us.ensures.valid some few (c.in-Ok.ensures ordered)
