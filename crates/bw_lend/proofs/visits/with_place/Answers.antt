-- A bit that is set keeps the others.
use Rattle.bw_lend.proofs.Bells.{set_with}
use Rattle.bw_lend.proofs.visits.with_place.Goals as goal

pub returns : goal.returns
returns c = set_with c.args.owed c.args.place c.requires
