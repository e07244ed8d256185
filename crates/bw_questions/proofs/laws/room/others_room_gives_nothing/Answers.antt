-- The goal of `others_room_gives_nothing`, answered by its lemma.
use Rattle.bw_questions.proofs.changes.BusyLaw.{others_room_gives}
use Rattle.bw_questions.proofs.laws.room.others_room_gives_nothing.Goals as goal

pub returns : goal.returns
returns c = others_room_gives
