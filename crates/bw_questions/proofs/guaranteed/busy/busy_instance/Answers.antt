-- The goals of `busy_instance` that are answered by hand.
use Rattle.bw_questions.specs.Busy.{busy_rows}
use Rattle.bw_questions.proofs.BusyRows.{are_busy, busy-IsInstance}
use Rattle.bw_questions.proofs.guaranteed.busy.busy_instance.Goals as goal

pub of_valid-requires : goal.of_valid-requires
of_valid-requires c =
    let groups = c.args.instance.now in
    rw (c.shape.ensures, c.in_ok-rows.ensures)
    (busy-IsInstance groups c.rows-rows.ensures.valid c.args.group
    (busy_rows groups.rows c.args.group) (are_busy groups.rows c.args.group))
