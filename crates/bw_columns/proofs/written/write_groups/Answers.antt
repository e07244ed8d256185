-- The goals of `write_groups` that are answered by hand.
use Rattle.bw_columns.specs.Groups.{columns_of, columns_with}
use Rattle.bw_columns.proofs.ColumnsOfGroups.{columns_written, front_by}
use Rattle.bw_columns.proofs.written.write_groups.Goals as goal

pub returns : goal.returns
returns c =
    let found = c.args.found.now in
    columns_written (columns_of found)
    (columns_with c.args.parents.now c.args.weights.now c.args.limits.now c.args.demands.now
    c.args.quotas.now c.args.periods.now c.args.bursts.now c.args.carries.now c.args.names.now)
    c.write_front.new.into
    c.write_front-2.new.into
    c.write_front-3.new.into
    c.write_front-4.new.into
    c.write_front-5.new.into
    c.write_front-6.new.into
    c.write_front-7.new.into
    c.write_front-8.new.into
    c.write_front-9.new.into
    (front_by c.as_slice.result.now found.parents.items c.args.parents.now c.write_front.new.into
    c.write_front.ensures c.as_slice.ensures.value)
    (front_by c.as_slice-2.result.now found.weights.items c.args.weights.now c.write_front-2.new.into
    c.write_front-2.ensures c.as_slice-2.ensures.value)
    (front_by c.as_slice-3.result.now found.limits.items c.args.limits.now c.write_front-3.new.into
    c.write_front-3.ensures c.as_slice-3.ensures.value)
    (front_by c.as_slice-4.result.now found.demands.items c.args.demands.now c.write_front-4.new.into
    c.write_front-4.ensures c.as_slice-4.ensures.value)
    (front_by c.as_slice-5.result.now found.quotas.items c.args.quotas.now c.write_front-5.new.into
    c.write_front-5.ensures c.as_slice-5.ensures.value)
    (front_by c.as_slice-6.result.now found.periods.items c.args.periods.now c.write_front-6.new.into
    c.write_front-6.ensures c.as_slice-6.ensures.value)
    (front_by c.as_slice-7.result.now found.bursts.items c.args.bursts.now c.write_front-7.new.into
    c.write_front-7.ensures c.as_slice-7.ensures.value)
    (front_by c.as_slice-8.result.now found.carries.items c.args.carries.now c.write_front-8.new.into
    c.write_front-8.ensures c.as_slice-8.ensures.value)
    (front_by c.as_slice-9.result.now found.names.items c.args.names.now c.write_front-9.new.into
    c.write_front-9.ensures c.as_slice-9.ensures.value)
