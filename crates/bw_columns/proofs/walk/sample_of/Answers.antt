-- The goals of `sample_of` that are answered by hand.
use Rattle.std.proofs.Common.{ap, sym, ◌∙◌, length}
use Rattle.bw_model.specs.declared.row.Row.{Row}
use Rattle.bw_columns.specs.declared.tally.Tally.{Tally}
use Rattle.bw_columns.proofs.PeriodSums.{sums_length}
use Rattle.bw_columns.proofs.walk.sample_of.Goals as goal

pub loop-walk-init : goal.loop-walk-init
loop-walk-init c =
    c.in_ok-walk.ensures c.args.asked.now.shape c.args.slice_us c.args.asked.now.rows
    c.args.mosts.now (ap (length {A = Row}) (sym c.rows-count.ensures.rows))

pub walked-requires-clause-sums : goal.walked-requires-clause-sums
walked-requires-clause-sums c =
    ap (length {A = Tally}) c.loop-walk.invariant.sums
    ∙ sums_length c.args.slice_us c.args.asked.now.rows c.loop-walk.invariant.done

pub walked-requires-clause-turn : goal.walked-requires-clause-turn
walked-requires-clause-turn c =
    ap (length {A = Tally}) c.loop-walk.invariant.turn_sums
    ∙ sums_length c.args.slice_us c.args.asked.now.rows c.loop-walk.invariant.turn

pub looked_back-requires-clause-turn : goal.looked_back-requires-clause-turn
looked_back-requires-clause-turn c =
    let way = c.in_ok-longer.ensures.way c.args.times c.args.carries.items c.loop-walk.invariant in
    ap (length {A = Tally}) way.turn_sums
    ∙ sums_length c.args.slice_us c.args.asked.now.rows way.turn
    ∙ sym (ap (length {A = Tally}) way.sums
    ∙ sums_length c.args.slice_us c.args.asked.now.rows way.done)

pub returns-clause-tallies : goal.returns-clause-tallies
returns-clause-tallies c =
    ap (length {A = Tally}) c.loop-walk.invariant.sums
    ∙ sums_length c.args.slice_us c.args.asked.now.rows c.loop-walk.invariant.done
