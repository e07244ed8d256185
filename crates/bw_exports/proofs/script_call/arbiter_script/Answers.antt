-- The goals of `arbiter_script` that are answered by hand.
use Rattle.std.proofs.Common.{rules, ◌≡◌, ◌∙◌, true, false, length, refl, sym, subst}
use Rattle.bw_model.specs.Host.{Shape, IsHost}
use Rattle.bw_model.specs.Faults.{host_fault_number}
use Rattle.bw_commands.specs.Reading.{IsRead}
use Rattle.bw_columns.specs.Asked.{asked_host}
use Rattle.bw_columns.specs.Groups.{columns_with, columns_of}
use Rattle.bw_columns.proofs.CallerLemmas.{front_by}
use Rattle.bw_exports.specs.Script.{Room, room_of, is_even}
use Rattle.bw_exports.proofs.ScriptLemmas.{uneven, no_host, no_memory, no_room, all_told, AreThose}
use Rattle.bw_exports.proofs.ScriptLemmas.{room_by}
use Rattle.bw_exports.proofs.script_call.arbiter_script.Goals as goal

pub returns-then-not-are_even : goal.returns-then-not-are_even
returns-then-not-are_even c =
    let before : Room =
    room_of
    (columns_with c.args.parents.now c.args.weights.now c.args.limits.now c.args.demands.now
    c.args.quotas.now c.args.periods.now c.args.bursts.now c.args.carries.now c.args.names.now)
    c.args.refused_lines.now c.args.refused_faults.now c.args.count.now c.args.names_count.now
    c.args.refused_count.now in
    let shape : Shape = asked_host c.args.processors c.args.period_us c.args.slice_us in
    let text = c.args.text.now in
    let odd : c.are_even.result ≡ false = search rules in
    uneven shape text before c.number.result (sym c.are_even.ensures ∙ odd) c.number.ensures.value

pub returns-in-Err : goal.returns-in-Err
returns-in-Err c =
    let before : Room =
    room_of
    (columns_with c.args.parents.now c.args.weights.now c.args.limits.now c.args.demands.now
    c.args.quotas.now c.args.periods.now c.args.bursts.now c.args.carries.now c.args.names.now)
    c.args.refused_lines.now c.args.refused_faults.now c.args.count.now c.args.names_count.now
    c.args.refused_count.now in
    let shape : Shape = asked_host c.args.processors c.args.period_us c.args.slice_us in
    let text = c.args.text.now in
    let even : c.are_even.result ≡ true = search rules in
    let e : is_even before ≡ true = sym c.are_even.ensures ∙ even in
    let is : c.from.result ≡ host_fault_number c.in-Err.fault = search rules in
    no_host shape text before c.from.result c.in-Err.fault e c.in-Err.ensures.err is

pub returns-in-Err-told_by : goal.returns-in-Err-told_by
returns-in-Err-told_by c =
    let before : Room =
    room_of
    (columns_with c.args.parents.now c.args.weights.now c.args.limits.now c.args.demands.now
    c.args.quotas.now c.args.periods.now c.args.bursts.now c.args.carries.now c.args.names.now)
    c.args.refused_lines.now c.args.refused_faults.now c.args.count.now c.args.names_count.now
    c.args.refused_count.now in
    let shape : Shape = asked_host c.args.processors c.args.period_us c.args.slice_us in
    let text = c.args.text.now in
    let even : c.are_even.result ≡ true = search rules in
    let e : is_even before ≡ true = sym c.are_even.ensures ∙ even in
    let host : IsHost shape = subst IsHost c.in-Ok.ensures.ok c.in-Ok.ensures.valid in
    let is : c.number-in-Err-told_by.result ≡ 71 = search rules in
    no_memory shape text before c.number-in-Err-told_by.result e host is

pub returns-then-not-fits : goal.returns-then-not-fits
returns-then-not-fits c =
    let before : Room =
    room_of
    (columns_with c.args.parents.now c.args.weights.now c.args.limits.now c.args.demands.now
    c.args.quotas.now c.args.periods.now c.args.bursts.now c.args.carries.now c.args.names.now)
    c.args.refused_lines.now c.args.refused_faults.now c.args.count.now c.args.names_count.now
    c.args.refused_count.now in
    let shape : Shape = asked_host c.args.processors c.args.period_us c.args.slice_us in
    let text = c.args.text.now in
    let even : c.are_even.result ≡ true = search rules in
    let e : is_even before ≡ true = sym c.are_even.ensures ∙ even in
    let host : IsHost shape = subst IsHost c.in-Ok.ensures.ok c.in-Ok.ensures.valid in
    let told = c.in-Ok-told_by.told in
    let t = c.in-Ok-told_by.ensures.told in
    let read : IsRead shape text t.refused t.last =
    subst (λ s. IsRead s text t.refused t.last) c.in-Ok.ensures.ok t.read in
    let those : AreThose t.last t.refused (columns_of told.groups) told.lines.items
    told.faults.items =
    record { groups = t.groups; lines_are = t.lines; faults_are = t.faults } in
    let few : c.fits.result ≡ false = search rules in
    no_room shape text before c.number-then-not-fits.result t.last t.refused
    (columns_of told.groups) told.lines.items told.faults.items e host read those
    (sym c.fits.ensures ∙ few) c.number-then-not-fits.ensures.value

pub returns : goal.returns
returns c =
    let before : Room =
    room_of
    (columns_with c.args.parents.now c.args.weights.now c.args.limits.now c.args.demands.now
    c.args.quotas.now c.args.periods.now c.args.bursts.now c.args.carries.now c.args.names.now)
    c.args.refused_lines.now c.args.refused_faults.now c.args.count.now c.args.names_count.now
    c.args.refused_count.now in
    let shape : Shape = asked_host c.args.processors c.args.period_us c.args.slice_us in
    let text = c.args.text.now in
    let even : c.are_even.result ≡ true = search rules in
    let e : is_even before ≡ true = sym c.are_even.ensures ∙ even in
    let host : IsHost shape = subst IsHost c.in-Ok.ensures.ok c.in-Ok.ensures.valid in
    let told = c.in-Ok-told_by.told in
    let t = c.in-Ok-told_by.ensures.told in
    let read : IsRead shape text t.refused t.last =
    subst (λ s. IsRead s text t.refused t.last) c.in-Ok.ensures.ok t.read in
    let those : AreThose t.last t.refused (columns_of told.groups) told.lines.items
    told.faults.items =
    record { groups = t.groups; lines_are = t.lines; faults_are = t.faults } in
    let enough : c.fits.result ≡ true = search rules in
    let groups : c.len.result ≡ length told.groups.parents.items = search rules in
    let bytes : c.len-2.result ≡ length told.groups.names.items = search rules in
    let lines : c.len-3.result ≡ length told.lines.items = search rules in
    let room = room_by (columns_of told.groups) told.lines.items told.faults.items before
    (columns_with c.write_groups.new.parents c.write_groups.new.weights c.write_groups.new.limits
    c.write_groups.new.demands c.write_groups.new.quotas c.write_groups.new.periods
    c.write_groups.new.bursts c.write_groups.new.carries c.write_groups.new.names)
    c.write_front.new.into c.write_front-2.new.into c.len.result c.len-2.result c.len-3.result
    c.write_groups.ensures
    (front_by c.as_slice.result.now told.lines.items c.args.refused_lines.now
    c.write_front.new.into c.write_front.ensures c.as_slice.ensures.value)
    (front_by c.as_slice-2.result.now told.faults.items c.args.refused_faults.now
    c.write_front-2.new.into c.write_front-2.ensures c.as_slice-2.ensures.value)
    groups bytes lines in
    all_told shape text before _ 0 t.last t.refused (columns_of told.groups) told.lines.items
    told.faults.items e host read those (sym c.fits.ensures ∙ enough) refl room
