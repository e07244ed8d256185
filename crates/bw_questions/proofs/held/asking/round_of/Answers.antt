-- The goals of `round_of` that are answered by hand.
use Rattle.bw_questions.proofs.AskingRows.{round-IsInstance}
use Rattle.bw_questions.proofs.held.asking.round_of.Goals as goal

pub of_valid-requires : goal.of_valid-requires
of_valid-requires c =
    rw (c.shape.ensures, c.in_ok-rows.ensures)
    (round-IsInstance c.args.reading.now c.rows-rows.ensures.valid c.args.hungry.now)
