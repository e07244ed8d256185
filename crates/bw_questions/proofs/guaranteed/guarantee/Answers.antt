-- The goals of `guarantee` that are answered by hand.
use Rattle.std.proofs.Common.{◌≡◌, ◌<◌, length, ap, arith}
use Rattle.bw_model.specs.declared.row.Row.{Row}
use Rattle.bw_questions.specs.Busy.{busy_rows}
use Rattle.bw_questions.proofs.BusyRows.{are_busy}
use Rattle.bw_questions.proofs.LeastAmount.{as_many, least}
use Rattle.bw_questions.proofs.guaranteed.guarantee.Goals as goal

pub bounds-amounts-group : goal.bounds-amounts-group
bounds-amounts-group c =
    let groups = c.args.instance.now in
    let planned = rw c.in_ok-busy.ensures at
    c.in_ok-planned.ensures in
    let below : c.args.group < length groups.rows =
    omega (arith, c.if-group-rows.false, ap (length {A = Row}) c.rows.ensures.rows) in
    let long : length c.in_ok-planned.planned.amounts.items ≡ length groups.rows =
    as_many groups c.rows.ensures.valid c.args.group (busy_rows groups.rows c.args.group)
    (are_busy groups.rows c.args.group) c.in_ok-planned.planned.amounts.items planned in
    rw c.as_slice-amounts.ensures.value (omega (arith, long, below))

pub returns-clause-ok : goal.returns-clause-ok
returns-clause-ok c =
    let groups = c.args.instance.now in
    let planned = rw c.in_ok-busy.ensures at
    c.in_ok-planned.ensures in
    let below : c.args.group < length groups.rows =
    omega (arith, c.if-group-rows.false, ap (length {A = Row}) c.rows.ensures.rows) in
    rw c.as_slice-amounts.ensures.value
    (least groups c.rows.ensures.valid c.args.group (busy_rows groups.rows c.args.group)
    (are_busy groups.rows c.args.group) below c.in_ok-planned.planned.amounts.items planned)
